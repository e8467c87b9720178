use Rattle.std.proofs.Common.{◌+◌, ◌∙◌, ◌++◌, ◌∷◌, [], sym, refl, ap, arith, length-append}
use Rattle.std.proofs.lemmas.Result.{err_from_is_err_and}
use Rattle.ts_der.specs.Element.{inside}
use Rattle.ts_der.specs.Reading.{many}
use Rattle.ts_der.specs.View.{now}
use Rattle.ts_der.proofs.Many.{goes_on, breaks_off, is_done}
use Rattle.ts_shape.specs.Items.{each, some_of}
use Rattle.ts_shape.proofs.ItemParts.{each-consumes, some-is, none-is}
use Rattle.ts_extensions.specs.Extension.{located_in}
use Rattle.ts_extensions.specs.ExtensionView.{located_as}
use Rattle.ts_crl.specs.FindingsView.{findings_in}
use Rattle.ts_crl.proofs.Joining.{many-fronted, extension-joined, no-extension-joined}
use Rattle.ts_crl.proofs.noting.note_extensions.Goals as goal

pub loop-rest-init : goal.loop-rest-init
loop-rest-init c = (
  [],
  rw c.reader-rest.ensures
      (many-fronted (many (each located_in) (inside (now c.args.element)))),
  no-extension-joined
      (findings_in c.args.findings.now),
  refl,
  rw c.reader-rest.ensures (omega arith),
)

pub returns-in_err-extension : goal.returns-in_err-extension
unfolding some_of
returns-in_err-extension c =
    let p = err_from_is_err_and c.from_residual.result c.from_residual.ensures.1 in
    let i = c.loop-rest.invariant in
    let total = breaks_off (each located_in) (each-consumes located_in) i.0 c.loop-rest.rest
    c.in_err-extension.field-0.0 (many (each located_in) (inside (now c.args.element)))
    (sym c.is_at_end.ensures ∙ c.loop-rest-test.true) c.in_err-extension.ensures i.1 in
    rw (p.1, p.2, total) refl

pub loop-rest-smaller : goal.loop-rest-smaller
loop-rest-smaller c = each-consumes located_in c.loop-rest.rest (located_as c.in_ok-extension.extension) c.next_extension.new.rest c.in_ok-extension.ensures

pub loop-rest-preserved : goal.loop-rest-preserved
loop-rest-preserved c =
    let i = c.loop-rest.invariant in
    let x = located_as c.in_ok-extension.extension in
    let fewer = each-consumes located_in c.loop-rest.rest x c.next_extension.new.rest c.in_ok-extension.ensures in (
      i.0 ++ x ∷ [],
      goes_on (each located_in) (each-consumes located_in) i.0 c.loop-rest.rest x
          c.next_extension.new.rest (many (each located_in) (inside (now c.args.element)))
          (sym c.is_at_end.ensures ∙ c.loop-rest-test.true) c.in_ok-extension.ensures i.1,
      extension-joined i.0 x (findings_in c.args.findings.now) (findings_in c.loop-rest.findings)
          (findings_in c.note.new.self) i.2 c.note.ensures.old_version c.note.ensures.repeated
          c.note.ensures.value c.note.ensures.unprocessed c.note.ensures.issuer,
      rw length-append (ap (λ n. n + 1) i.3),
      omega (arith, fewer, i.4),
    )

pub returns-then-is_empty : goal.returns-then-is_empty
returns-then-is_empty c =
    let i = c.loop-rest.invariant in
    let all = is_done (each located_in) i.0 c.loop-rest.rest (many (each located_in) (inside (now c.args.element))) (sym c.is_at_end.ensures ∙ c.loop-rest-test.false) i.1 in
    none-is located_in (now c.args.element) i.0 all (sym c.is_empty.ensures ∙ c.if-is_empty.true)

pub returns : goal.returns
returns c =
    let i = c.loop-rest.invariant in
    let all = is_done (each located_in) i.0 c.loop-rest.rest (many (each located_in) (inside (now c.args.element))) (sym c.is_at_end.ensures ∙ c.loop-rest-test.false) i.1 in
    (i.0, some-is located_in (now c.args.element) i.0 all (sym c.is_empty.ensures ∙ c.if-is_empty.false), i.2, i.3)
