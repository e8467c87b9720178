use Rattle.std.proofs.Common.{◌≡◌, ℕ, ◌<◌, ◌+◌, ◌-◌, ◌%◌, Some, refl, sym, ap, ◌∙◌, arith}
use Rattle.std.proofs.Math.Nat.{mod-eq_of_lt, zero-add}
use Rattle.std.proofs.lemmas.Bool.{false≢true}
use Rattle.ts_ring.specs.Modular.{sub}
use Rattle.ts_curve.proofs.curve.has_scalar_and_order.Goals as goal

-- the prime less the order, modulo the prime
rest_is : (p n : ℕ) → 0 < n → n < p → sub p 0 n ≡ p - n
rest_is p n pos less =
    ap (λ k. (0 + (p - k)) % p) (mod-eq_of_lt less) ∙ ap (λ k. k % p) (zero-add (p - n))
    ∙ mod-eq_of_lt (omega arith)

pub returns-then-not-is_less : goal.returns-then-not-is_less
returns-then-not-is_less g c =
    let p = g.C.Prime.Modulus.prime in
    let q = g.C.DomainParameters.curve in
    let d = g.met.C.DomainParameters in
    let r = c.args.r.now in
    let limbs = c.to_limbs-limbs.ensures ∙ c.copy-first.ensures.same in
    let less : q.order < p = omega (arith, d.order_is_below, d.prime_is) in
    let order : c.from_limbs-order.result ≡ q.order =
    rw (c.from_limbs-order.ensures, c.prime.ensures, d.order_is) (mod-eq_of_lt less) in
    let rest : c.difference-rest.result ≡ p - q.order =
    rw (c.difference-rest.ensures, c.zero.ensures, order)
    (rest_is p q.order (omega (arith, c.copy-first.ensures.below, d.order_is)) less) in (
      λ h. absurd (false≢true h),
      λ h. absurd (false≢true (c.if-not-is_less.ensures.1 (rw (limbs, c.to_limbs.ensures, rest)
          (omega (arith, h.0, d.prime_is))))),
    )

pub returns : goal.returns
returns g c =
    let p = g.C.Prime.Modulus.prime in
    let q = g.C.DomainParameters.curve in
    let d = g.met.C.DomainParameters in
    let r = c.args.r.now in
    let limbs = c.to_limbs-limbs.ensures ∙ c.copy-first.ensures.same in
    let less : q.order < p = omega (arith, d.order_is_below, d.prime_is) in
    let order : c.from_limbs-order.result ≡ q.order =
    rw (c.from_limbs-order.ensures, c.prime.ensures, d.order_is) (mod-eq_of_lt less) in
    let rest : c.difference-rest.result ≡ p - q.order =
    rw (c.difference-rest.ensures, c.zero.ensures, order)
    (rest_is p q.order (omega (arith, c.copy-first.ensures.below, d.order_is)) less) in
    let small : r < p - q.order =
    rw (limbs, c.to_limbs.ensures, rest) at (c.if-not-is_less.ensures.0 refl) in
    let x : c.from_limbs-x.result ≡ r =
    rw (c.from_limbs-x.ensures, limbs) (mod-eq_of_lt (omega (arith, small))) in
    let sum : c.sum.result ≡ r + q.order =
    rw (c.sum.ensures, x, order) (mod-eq_of_lt (omega (arith, small))) in (
      λ h.
          let found = c.has_x.ensures.exactly.0 h in
          (omega (arith, small, d.prime_is), (found.0, found.1 ∙ ap (λ k. Some (k, found.0)) sum)),
      λ h. c.has_x.ensures.exactly.1 (h.1.0, h.1.1 ∙ ap (λ k. Some (k, h.1.0)) (sym sum)),
    )
