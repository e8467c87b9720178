use Rattle.std.proofs.Common.{◌+◌, List, ℕ, length, ap, ◌∙◌, drop}
use Rattle.ts_der.specs.Element.{Place, Tlv, length_octets}
use Rattle.ts_cert.proofs.Layouts.{inside-element}
use Rattle.ts_cert.proofs.layout.inside.Goals as goal

pub returns-in-Ok-clause-begins : goal.returns-in-Ok-clause-begins
returns-in-Ok-clause-begins c tag content rest fits here =
    let octets : List ℕ = c.args.octets.now in
    let is = c.in-Ok.ensures.only tag content rest fits (ap (λ (p : Place). p.rest) c.at.ensures ∙ here) in
    let at = ap (λ (p : Place). p.at + 1 + length (length_octets (length content))) c.at.ensures in
    ap (λ (n : ℕ). drop n octets) (ap (λ (e : Tlv). e.start) is ∙ at) ∙ inside-element octets content rest c.args.at tag here
