use Rattle.std.proofs.Common.{◌+◌, List, ℕ, length, ap, ◌∙◌, drop}
use Rattle.ts_der.specs.Element.{Place, Tlv, encode}
use Rattle.ts_cert.proofs.Layouts.{behind-element}
use Rattle.ts_cert.proofs.layout.end_of.Goals as goal

pub returns-in-Ok-clause-ends : goal.returns-in-Ok-clause-ends
returns-in-Ok-clause-ends c tag content rest fits here =
    let octets : List ℕ = c.args.octets.now in
    let is = c.in-Ok.ensures.only tag content rest fits (ap (λ (p : Place). p.rest) c.at-reader.ensures ∙ here) in
    let moved = c.in-Ok.ensures.found.moved in
    let at = ap (λ (e : Tlv). c.at-reader.result.at + length e.whole) is in
    let from = ap (λ (p : Place). p.at + length (encode tag content)) c.at-reader.ensures in
    ap (λ (n : ℕ). drop n octets) (c.offset.ensures ∙ (moved ∙ (at ∙ from))) ∙ behind-element octets content rest c.args.at tag here
