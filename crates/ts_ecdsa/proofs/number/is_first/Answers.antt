use Rattle.std.proofs.Common.{◌≡◌, ℕ, ◌%◌, Some, None, refl, sym, subst}
use Rattle.ts_curve.specs.Points.{Point}
use Rattle.ts_ecdsa.specs.Number.{FirstIs}
use Rattle.ts_ecdsa.proofs.number.is_first.Goals as goal

first_to : (n r : ℕ) (p : Point) → ((x y : ℕ) × (p ≡ Some (x, y)) × (x % n ≡ r)) → FirstIs n p r
first_to n r p h = subst (λ q. FirstIs n q r) (sym h.2) h.3

first_from : (n r : ℕ) (p : Point) → FirstIs n p r → (x y : ℕ) × (p ≡ Some (x, y)) × (x % n ≡ r)
first_from n r None h = absurd h
first_from n r (Some t) h = (t.0, t.1, refl, h)

pub returns : goal.returns
returns g c =
    let n = g.C.DomainParameters.curve.order in
    let p = c.args.point.now in
    let r = c.args.r.now in (
      λ h. first_to n r p (c.has_scalar.ensures.0 h),
      λ h. c.has_scalar.ensures.1 (first_from n r p h),
    )
