use Rattle.std.proofs.Common.{◌≡◌, ℕ, ◌<◌, ◌+◌, Some, inl, inr, refl, sym, ap, ◌∙◌, arith}
use Rattle.std.proofs.Math.Nat.{mod-eq_of_lt, add-mod_right}
use Rattle.std.proofs.lemmas.Bool.{false≢true}
use Rattle.ts_curve.proofs.First.{scalar_cases}
use Rattle.ts_curve.proofs.curve.has_scalar.Goals as goal

pub returns-then-has_x : goal.returns-then-has_x
returns-then-has_x g c =
    let p = g.C.Prime.Modulus.prime in
    let q = g.C.DomainParameters.curve in
    let d = g.met.C.DomainParameters in
    let r = c.args.r.now in
    let less : r < q.order = omega (arith, c.copy-first.ensures.below, d.order_is) in
    let x : c.from_limbs-x.result ≡ r =
    rw (c.from_limbs-x.ensures, c.to_limbs.ensures, c.copy-first.ensures.same)
    (mod-eq_of_lt (omega (arith, less, d.order_is_below, d.prime_is))) in
    let found = c.if-has_x.ensures.exactly.0 refl in (
      λ _. (r, found.0, found.1 ∙ ap (λ k. Some (k, found.0)) x, mod-eq_of_lt less),
      λ _. refl,
    )

pub returns : goal.returns
returns g c =
    let p = g.C.Prime.Modulus.prime in
    let q = g.C.DomainParameters.curve in
    let d = g.met.C.DomainParameters in
    let r = c.args.r.now in
    let less : r < q.order = omega (arith, c.copy-first.ensures.below, d.order_is) in
    let x : c.from_limbs-x.result ≡ r =
    rw (c.from_limbs-x.ensures, c.to_limbs.ensures, c.copy-first.ensures.same)
    (mod-eq_of_lt (omega (arith, less, d.order_is_below, d.prime_is))) in
    let below : (x y : ℕ) → c.args.point.now ≡ Some (x, y) → x < q.prime =
    λ x y e. (let l = c.has_x.ensures.below x y e in omega (arith, l, d.prime_is)) in (
      λ h.
          let found = c.has_scalar_and_order.ensures.0 h in
          (r + q.order, found.1.0, found.1.1, add-mod_right r q.order ∙ mod-eq_of_lt less),
      λ h.
          elim (scalar_cases c.args.point.now q.prime q.order r d.order_is_below d.prime_is_below
          below h.0 h.1 h.2 h.3) [
            | inl one ↦
                absurd (false≢true (c.if-has_x.ensures.exactly.1
                (one.0, one.1 ∙ ap (λ k. Some (k, one.0)) (sym x))))
            | inr other ↦ c.has_scalar_and_order.ensures.1 other
          ],
    )
