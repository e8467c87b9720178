use Rattle.std.proofs.Common.{◌∙◌, ◌++◌, ◌∷◌, [], sym, refl}
use Rattle.std.proofs.lemmas.Result.{err_from_is_err_and}
use Rattle.ts_der.specs.Element.{inside}
use Rattle.ts_der.specs.Reading.{many}
use Rattle.ts_der.specs.View.{now}
use Rattle.ts_der.proofs.Many.{goes_on, breaks_off, is_done}
use Rattle.ts_shape.specs.Items.{each}
use Rattle.ts_shape.proofs.ItemParts.{each-consumes}
use Rattle.ts_crl.specs.FindingsView.{findings_in}
use Rattle.ts_crl.specs.Reading.{located_entry_of}
use Rattle.ts_crl.proofs.Joining.{entry-joined}
use Rattle.ts_crl.proofs.entries.check_entries.Goals as goal

pub returns-in_err-note_next : goal.returns-in_err-note_next
returns-in_err-note_next c =
    let p = err_from_is_err_and c.from_residual.result c.from_residual.ensures.1 in
    let i = c.loop-rest.invariant in
    let total = breaks_off (each located_entry_of) (each-consumes located_entry_of) i.0
    c.loop-rest.rest c.in_err-note_next.field-0.0
    (many (each located_entry_of) (inside (now c.args.element)))
    (sym c.is_at_end.ensures ∙ c.loop-rest-test.true) c.in_err-note_next.ensures i.1 in
    rw (p.1, p.2, total) refl

pub loop-rest-smaller : goal.loop-rest-smaller
loop-rest-smaller c = let x = c.in_ok-note_next.ensures in each-consumes located_entry_of c.loop-rest.rest x.0 c.note_next.new.rest x.1

pub loop-rest-preserved : goal.loop-rest-preserved
loop-rest-preserved c =
    let i = c.loop-rest.invariant in
    let x = c.in_ok-note_next.ensures in (
      i.0 ++ x.0 ∷ [],
      goes_on (each located_entry_of) (each-consumes located_entry_of) i.0 c.loop-rest.rest x.0
          c.note_next.new.rest (many (each located_entry_of) (inside (now c.args.element)))
          (sym c.is_at_end.ensures ∙ c.loop-rest-test.true) x.1 i.1,
      entry-joined i.0 x.0 (findings_in c.loop-rest.findings) (findings_in c.note_next.new.findings) i.2 x.2,
    )

pub returns : goal.returns
returns c =
    let i = c.loop-rest.invariant in
    (i.0, is_done (each located_entry_of) i.0 c.loop-rest.rest (many (each located_entry_of) (inside (now c.args.element))) (sym c.is_at_end.ensures ∙ c.loop-rest-test.false) i.1, i.2)
