use Rattle.std.proofs.Common.{Option, sym, ap, subst, ◌∙◌}
use Rattle.std.specs.Prelude.{option_map}
use Rattle.ts_der.specs.Element.{inside}
use Rattle.ts_der.specs.View.{now}
use Rattle.ts_shape.specs.Items.{items_at}
use Rattle.ts_crl.specs.declared.mark.Mark.{Mark as Borrowed}
use Rattle.ts_crl.specs.Entries.{has_serial}
use Rattle.ts_crl.specs.EntryView.{entry_in as said_in, entries_in}
use Rattle.ts_crl.specs.inside.Marks.{Mark}
use Rattle.ts_crl.specs.inside.MarkView.{mark_as}
use Rattle.ts_crl.specs.Reading.{located_entry_of}
use Rattle.ts_crl.proofs.Finds.{any-none}
use Rattle.ts_crl.proofs.Marked.{Found, first-marked, read-again}
use Rattle.ts_crl.proofs.revoked.RevokedEntries.first_of.Goals as goal

pub returns-in-Some : goal.returns-in-Some
returns-in-Some c =
    let s = c.args.serial.octets.now in
    let xs = items_at located_entry_of (inside (now c.args.self.element)) in
    let found = subst (λ (o : Option Mark). Found s xs o)
    (sym c.mark_of.ensures ∙ ap (λ (o : Option Borrowed). option_map mark_as o) c.in-Some.is)
    (first-marked (now c.args.self.element) s (sym c.args.self.read)) in
    ap (λ o. option_map said_in o) c.ok.ensures.value ∙ (read-again c.read.result (located_entry_of (now c.in-Some.mark.entry)) found.0 c.read.ensures found.1 ∙ sym found.2)

pub returns-in-None : goal.returns-in-None
returns-in-None c =
    let s = c.args.serial.octets.now in
    let xs = items_at located_entry_of (inside (now c.args.self.element)) in
    sym (subst (λ (o : Option Mark). Found s xs o)
    (sym c.mark_of.ensures ∙ ap (λ (o : Option Borrowed). option_map mark_as o) c.in-None.is)
    (first-marked (now c.args.self.element) s (sym c.args.self.read)))

pub returns-then-lacks : goal.returns-then-lacks
returns-then-lacks c = sym (any-none (has_serial c.args.serial.octets.now) (entries_in c.args.self) (c.lacks.ensures c.if-lacks.true))
