use Rattle.std.proofs.Common.{◌≡◌, ◌-◌, refl, sym, ap, ◌∙◌}
use Rattle.std.proofs.Math.Nat.{mod-eq_of_lt}
use Rattle.ts_ring.specs.Modular.{mul}
use Rattle.ts_curve.specs.Curves.{right_side}
use Rattle.ts_curve.proofs.Double.{minus_three}
use Rattle.ts_curve.proofs.curve.is_on_curve.Goals as goal

pub returns : goal.returns
returns g c =
    let q = g.C.DomainParameters.curve in
    let e = g.met.C.DomainParameters.prime_is in
    let field = g.met.C.Prime.Modulus.is_field in
    let p = g.C.Prime.Modulus.prime in
    let three : c.from_limbs-three.result ≡ 3 =
    c.from_limbs-three.ensures ∙ (rw c.small.ensures (mod-eq_of_lt field.above)) in
    let minus : c.difference-a.result ≡ p - 3 =
    rw (c.difference-a.ensures, c.zero.ensures, three) (minus_three p field) in
    let a : c.difference-a.result ≡ q.a =
    minus ∙ ap (λ k. k - 3) e ∙ sym g.met.C.DomainParameters.a_is in
    let b : c.from_limbs-b.result ≡ q.b =
    c.from_limbs-b.ensures ∙ (rw (c.b.ensures, e)
    (mod-eq_of_lt g.met.C.DomainParameters.b_is_below)) in
    let left : c.square-left.result ≡ mul q.prime c.args.y.now c.args.y.now =
    rw (c.square-left.ensures, c.copy-second.ensures.same, e) refl in
    let right : c.sum-right.result ≡ right_side q c.args.x.now =
    rw (
      c.sum-right.ensures,
      c.sum-sum.ensures,
      c.product-line.ensures,
      c.product-cube.ensures,
      c.square-square.ensures,
      c.copy-first.ensures.same,
      a,
      b,
      e,
    ) refl in (
      λ h. record {
        first = rw e at c.copy-first.ensures.below;
        second = rw e at c.copy-second.ensures.below;
        equation = sym left ∙ c.is_equal.ensures.0 h ∙ right;
      },
      λ o. c.is_equal.ensures.1 (left ∙ o.equation ∙ sym right),
    )
