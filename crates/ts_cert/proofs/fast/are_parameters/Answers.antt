use Rattle.std.proofs.Common.{ℕ, Some, refl, subst}
use Rattle.std.proofs.lemmas.Bool.{eqb-true}
use Rattle.ts_der.specs.Element.{encode}
use Rattle.ts_der.specs.Stands.{between, HavePart}
use Rattle.ts_cert.proofs.fast.are_parameters.Goals as goal

pub returns-in-Some-bounds_at : goal.returns-in-Some-bounds_at
returns-in-Some-bounds_at c e =
    let octets = c.args.octets.now in
    let bounds = c.in-Some-bounds_at.bounds in
    let has = c.in-Some-bounds_at.ensures.stands in
    let content = between octets bounds in
    let is = eqb-true bounds.end c.args.end e in (
      Some (encode c.in-Some.tag.now content),
      record {
        tag = c.in-Some.tag.now;
        content =
            content;
        fits = has.fits;
        encoded = refl;
      },
      subst
          (λ (n : ℕ). HavePart octets c.args.at (encode c.in-Some.tag.now content) n) is has.whole,
    )
