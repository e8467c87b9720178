use Rattle.std.proofs.Common.{[], ap, sym, ◌∙◌}
use Rattle.std.proofs.Math.Logic.{∥∥₁_elim}
use Rattle.std.proofs.lemmas.List.{append-nil}
use Rattle.ts_der.specs.Element.{Place, encode}
use Rattle.ts_der.specs.View.{now}
use Rattle.ts_cert.proofs.Held.{explicit-there, explicit-never-refused, list-there}
use Rattle.ts_cert.proofs.part.extensions_from.Goals as goal

pub unreachable-requires : goal.unreachable-requires
unreachable-requires c = ∥∥₁_elim c.requires (λ x y. absurd x) (λ h. explicit-never-refused c.args.octets.now c.args.at c.at.result c.at.ensures c.in-Err.field-0 c.in-Err.ensures.exact.0 h.0 h.1)

pub returns-in-Ok-Some : goal.returns-in-Ok-Some
returns-in-Ok-Some c x h =
    let found = rw c.in-Ok-Some.field-0-is at c.in-Ok-Some.ensures.found in
    let e = explicit-there c.args.octets.now c.args.at c.at.result (now c.in-Ok-Some.explicit) _ (ap (λ (p : Place). p.rest) c.at.ensures) found.0 found.1 x h in
    let list = e.2 in
    let here = ap (λ (p : Place). p.rest) c.reader.ensures ∙ (list.encoded ∙ sym (append-nil (encode 0x30 list.content))) in
    let is = c.element.ensures.only list.content [] list.fits here in
    rw c.ok.ensures.value (list-there c.element.result _ list.content e.0 is list.value ∙ sym e.1)
