-- First coordinates of points.
use Rattle.std.proofs.Common.{◌≡◌, ◌≢◌, ℕ, ◌+◌, ◌-◌, ◌*◌, ◌%◌, ◌<◌, ◌⊎◌, Some, None, inl, inr, sym, ap, ◌∙◌, arith}
use Rattle.std.proofs.Math.Nat.{mod-eq_of_lt, mod-eq-sub-mod}
use Rattle.std.proofs.lemmas.Bool.{cases_eq, cases_lt}
use Rattle.ts_ring.specs.Modular.{mul, inverse, IsField}
use Rattle.ts_ring.proofs.Fields.{below, nonzero}
use Rattle.ts_curve.specs.Points.{Point}
use Rattle.ts_curve.specs.Jacobian.{jacobian}
use Rattle.ts_curve.proofs.Triples.{back_square, forth_square, view_none}
use Rattle.ts_curve.proofs.Double.{view_is}

first_of : Point → ℕ
first_of None = 0
first_of (Some t) = t.0

same_first : (t u : ℕ × ℕ) → ◌≡◌ {A = Point} (Some t) (Some u) → t.0 ≡ u.0
unfolding first_of
same_first t u e = ap first_of e

-- the first coordinate of (X / Z^2, Y / Z^3) is x where X is x * Z^2
pub first_is : (p a b z x : ℕ) → IsField p → a < p → z < p → x < p → z ≢ 0
    → a ≡ mul p x (mul p z z) → (y : ℕ) × (jacobian p (a, b, z) ≡ Some (x, y))
first_is p a b z x f ha hz hx nz e =
    let i = inverse p z in
    let one = f.inverts z (nonzero p z hz nz) in
    let y = mul p b (mul p i (mul p i i)) in
    let same : mul p a (mul p i i) ≡ x = ap (λ k. mul p k (mul p i i)) e
    ∙ forth_square p x z i f hx one in
    (y, view_is p a b z nz ∙ ap (λ k. Some (k, y)) same)

pub first_only : (p a b z x y : ℕ) → IsField p → a < p → z < p → z ≢ 0
    → jacobian p (a, b, z) ≡ Some (x, y) → a ≡ mul p x (mul p z z)
first_only p a b z x y f ha hz nz e =
    let i = inverse p z in
    let one = f.inverts z (nonzero p z hz nz) in
    let same : mul p a (mul p i i) ≡ x =
    same_first _ (x, y) (sym (view_is p a b z nz) ∙ e) in
    sym (back_square p a z i f ha one) ∙ ap (λ k. mul p k (mul p z z)) same

-- a first coordinate is below the prime
pub first_below : (p a b z x y : ℕ) → IsField p → jacobian p (a, b, z) ≡ Some (x, y) → x < p
first_below p a b z x y f e =
    elim (cases_eq z 0) [
      | inl zero ↦ absurd (let none = view_none p (a, b, z) zero in cc)
      | inr nz ↦
          let same = same_first _ (x, y) (sym (view_is p a b z nz) ∙ e) in
          let less = below p (a * mul p (inverse p z) (inverse p z)) f in
          omega (arith, same, less)
    ]

-- a number below p, where n is below p and p below 2 * n, is its remainder r modulo n, or n more
remainder_cases : (p n x r : ℕ) → x < p → n < p → p < 2 * n → x % n ≡ r
    → (x ≡ r) ⊎ (x ≡ r + n)
remainder_cases p n x r hx hn hp e =
    elim (cases_lt x n) [
      | inl less ↦ inl (sym (mod-eq_of_lt less) ∙ e)
      | inr more ↦
          let rest : x - n < n = omega arith in
          let same : x % n ≡ x - n = mod-eq-sub-mod more ∙ mod-eq_of_lt rest in
          inr (omega (arith, same))
    ]

-- a point whose first coordinate is r modulo n has the first coordinate r or r + n
pub scalar_cases : (t : Point) (p n r : ℕ) → n < p → p < 2 * n
    → ((x y : ℕ) → t ≡ Some (x, y) → x < p) → (x y : ℕ) → t ≡ Some (x, y) → x % n ≡ r
    → ((y : ℕ) × (t ≡ Some (r, y))) ⊎ ((r + n < p) × ((y : ℕ) × (t ≡ Some (r + n, y))))
scalar_cases t p n r hn hp hx x y e m =
    elim (remainder_cases p n x r (hx x y e) hn hp m) [
      | inl same ↦ inl (y, e ∙ ap (λ k. Some (k, y)) same)
      | inr more ↦
          let less = hx x y e in
          inr (omega (arith, less, more), (y, e ∙ ap (λ k. Some (k, y)) more))
    ]
