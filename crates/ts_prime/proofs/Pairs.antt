-- From a pair of order p + 1 to inverses modulo p: were p a product of d and c, where d is not above
-- c, then the powers of the pair would be p + 1 different pairs modulo d, of which there are d * d.
use Rattle.std.proofs.Common.{◌≡◌, ℕ, zero, suc, ◌+◌, ◌-◌, ◌*◌, ◌/◌, ◌%◌, ◌^◌, ◌<◌, ◌≤◌, Bool}
use Rattle.std.proofs.Common.{true, false, ◌&&◌, eqb, ltb, List, [], ◌∷◌, refl, sym, ap}
use Rattle.std.proofs.Common.{subst, ◌∙◌, inl, inr, arith}
use Rattle.std.proofs.Math.Nat.{pow-zero, pow-suc, mod-eq_of_lt, mod-mod, mod-lt, add-mod}
use Rattle.std.proofs.Math.Nat.{zero-mod, mul-zero, mul-mod_left, add-mul-mod_self_right, div-add-mod'}
use Rattle.std.proofs.lemmas.Bool.{cases_eq, cases_lt, eqb-true, eqb-false, ltb-true}
use Rattle.std.proofs.lemmas.Nat.{mul-le, mul-mod, mul-mod_first, same_from_place}
use Rattle.ts_prime.specs.inside.Certificate.{Pair, pair_product, pair_modulo, pair_power, power}
use Rattle.ts_prime.specs.inside.Certificate.{product, is_unit, is_proper_pair, pair_has_order}
use Rattle.ts_prime.proofs.Powers.{power_is, both, quotient_below}
use Rattle.ts_prime.proofs.Pigeons.{pigeons}
use Rattle.ts_prime.proofs.Orders.{HasInverses, AllInverses, ArePeriods, Proper, order}

to_mod : (p a b k l : ℕ) → a + k * p ≡ b + l * p → a % p ≡ b % p
to_mod p a b k l h = sym (add-mul-mod_self_right a k p) ∙ ap (λ z. z % p) h
    ∙ add-mul-mod_self_right b l p

-- ---- powers of pairs
pair-eq : (a b c d : ℕ) → a ≡ c → b ≡ d → (let x : Pair = (a, b) in x) ≡ (c, d)
pair-eq a b c d e f = rw (e, f) refl

abbrev pow : ℕ → Pair → ℕ → Pair
pow e x zero = (1, 0)
pow e x (suc k) = pair_product e (pow e x k) x

associative : (e : ℕ) (x y z : Pair) → pair_product e (pair_product e x y) z
    ≡ pair_product e x (pair_product e y z)
associative e x y z = pair-eq _ _ _ _ (omega arith) (omega arith)

neutral : (e : ℕ) (x : Pair) → pair_product e (1, 0) x ≡ x
neutral e x = pair-eq _ _ _ _ (omega arith) (omega arith)

neutral-last : (e : ℕ) (x : Pair) → pair_product e x (1, 0) ≡ x
neutral-last e x = pair-eq _ _ _ _ (omega arith) (omega arith)

pow-sum : (e : ℕ) (x : Pair) (i j : ℕ) → pow e x (i + j) ≡ pair_product e (pow e x i) (pow e x j)
pow-sum e x i zero =
    let w : i + 0 ≡ i = omega arith in
    ap (pow e x) w ∙ sym (neutral-last e (pow e x i))
pow-sum e x i (suc j) =
    let w : i + suc j ≡ suc (i + j) = omega arith in
    ap (pow e x) w ∙ ap (λ y. pair_product e y x) (pow-sum e x i j)
    ∙ associative e (pow e x i) (pow e x j) x

pow-square : (e : ℕ) (x : Pair) (j : ℕ) → pow e (pair_product e x x) j ≡ pow e x (j + j)
pow-square e x zero = refl
pow-square e x (suc j) =
    let w : suc (suc (j + j)) ≡ suc j + suc j = omega arith in
    ap (λ y. pair_product e y (pair_product e x x)) (pow-square e x j)
    ∙ sym (associative e (pow e x (j + j)) x x) ∙ ap (pow e x) w

-- ---- pairs modulo a number
abbrev Same : ℕ → Pair → Pair → Type 0
Same m x y = (x.0 % m ≡ y.0 % m) × (x.1 % m ≡ y.1 % m)

both-same : (m : ℕ) (x y z : Pair) → Same m x y → Same m y z → Same m x z
both-same m x y z e f = (e.0 ∙ f.0, e.1 ∙ f.1)

mul-same : (m a b c d : ℕ) → a % m ≡ c % m → b % m ≡ d % m → (a * b) % m ≡ (c * d) % m
mul-same m a b c d e f =
    mul-mod a b m ∙ ap (λ z. (z * (b % m)) % m) e ∙ ap (λ z. ((c % m) * z) % m) f
    ∙ sym (mul-mod c d m)

add-same : (m a b c d : ℕ) → a % m ≡ c % m → b % m ≡ d % m → (a + b) % m ≡ (c + d) % m
add-same m a b c d e f =
    add-mod a b m ∙ ap (λ z. (z + b % m) % m) e ∙ ap (λ z. (c % m + z) % m) f
    ∙ sym (add-mod c d m)

same-product : (m e : ℕ) (x y z w : Pair) → Same m x z → Same m y w
    → Same m (pair_product e x y) (pair_product e z w)
same-product m e x y z w s t = (
  add-same m (x.0 * y.0) (e * (x.1 * y.1)) (z.0 * w.0) (e * (z.1 * w.1))
      (mul-same m x.0 y.0 z.0 w.0 s.0 t.0)
      (mul-same m e (x.1 * y.1) e (z.1 * w.1) refl (mul-same m x.1 y.1 z.1 w.1 s.1 t.1)),
  add-same m (x.0 * y.1) (x.1 * y.0) (z.0 * w.1) (z.1 * w.0)
      (mul-same m x.0 y.1 z.0 w.1 s.0 t.1) (mul-same m x.1 y.0 z.1 w.0 s.1 t.0),
)

same-pow : (m e : ℕ) (x y : Pair) (k : ℕ) → Same m x y → Same m (pow e x k) (pow e y k)
same-pow m e x y zero s = (refl, refl)
same-pow m e x y (suc k) s =
    same-product m e (pow e x k) x (pow e y k) y (same-pow m e x y k s) s

same-modulo : (m : ℕ) (x : Pair) → Same m (pair_modulo m x) x
same-modulo m x = (mod-mod x.0 m, mod-mod x.1 m)

pair_power_is : (fuel p e : ℕ) (x : Pair) (k : ℕ) → k < 2 ^ fuel
    → Same p (pair_power fuel p e x k) (pow e x k)
pair_power_is zero p e x k h =
    let w : k ≡ 0 = omega (arith, pow-zero 2) in
    rw w (mod-mod 1 p, refl)
pair_power_is (suc fuel) p e x k h =
    let j = k / 2 in
    let half : j < 2 ^ fuel = omega (arith, pow-suc 2 fuel) in
    let square = pair_product e x x in
    let high = pair_power fuel p e (pair_modulo p square) j in
    let before : Same p high (pow e x (j + j)) =
    subst (λ y. Same p high y) (pow-square e x j)
    (both-same p high (pow e (pair_modulo p square) j) (pow e square j)
    (pair_power_is fuel p e (pair_modulo p square) j half)
    (same-pow p e (pair_modulo p square) square j (same-modulo p square))) in
    let one : (t : Bool) → eqb (k % 2) 0 ≡ t → Same p (elim t as (λ v. Pair) [
      | true ↦ high
      | false ↦ pair_modulo p (pair_product e high x)
    ]) (pow e x k) =
    λ t. elim t as (λ t. eqb (k % 2) 0 ≡ t → Same p (elim t as (λ v. Pair) [
      | true ↦ high
      | false ↦ pair_modulo p (pair_product e high x)
    ]) (pow e x k)) [
      | true ↦ λ s. let f = eqb-true (k % 2) 0 s in let w : j + j ≡ k = omega arith in
          subst (λ i. Same p high (pow e x i)) w before
      | false ↦ λ s. let f = eqb-false (k % 2) 0 s in let w : suc (j + j) ≡ k = omega arith in
          subst (λ i. Same p (pair_modulo p (pair_product e high x)) (pow e x i)) w
          (both-same p (pair_modulo p (pair_product e high x)) (pair_product e high x)
          (pair_product e (pow e x (j + j)) x) (same-modulo p (pair_product e high x))
          (same-product p e high x (pow e x (j + j)) x before (refl, refl)))
    ] in
    elim (eqb k 0) as (λ t. eqb k 0 ≡ t → Same p (elim t as (λ v. Pair) [
      | true ↦ (1 % p, 0)
      | false ↦
          (elim (eqb (k % 2) 0) as (λ v. Pair) [
            | true ↦ high
            | false ↦ pair_modulo p (pair_product e high x)
          ])
    ]) (pow e x k)) [
      | true ↦ λ t. subst (λ i. Same p (1 % p, 0) (pow e x i)) (sym (eqb-true k 0 t))
          (mod-mod 1 p, refl)
      | false ↦ λ t. one (eqb (k % 2) 0) refl
    ] refl

-- ---- the order of a pair modulo a divisor
-- what is the same modulo q is so modulo a divisor of q
below-one : (d c q a t r : ℕ) → d * c ≡ q → t * q + r ≡ a → a % d ≡ r % d
below-one d c q a t r e f =
    to_mod d a r 0 (t * c) (omega (arith, f, ap (λ z. t * z) e))

below : (d c q a b : ℕ) → d * c ≡ q → a % q ≡ b % q → a % d ≡ b % d
below d c q a b e f =
    below-one d c q a (a / q) (a % q) e (div-add-mod' a q) ∙ ap (λ z. z % d) f
    ∙ sym (below-one d c q b (b / q) (b % q) e (div-add-mod' b q))

abbrev IsOne : ℕ → ℕ → Pair → ℕ → Type 0
IsOne m e x k = Same m (pow e x k) (1, 0)

-- a power that is 1 is left out of a product
left-out : (m e : ℕ) (x : Pair) (i j : ℕ) → IsOne m e x i → Same m (pow e x (i + j)) (pow e x j)
left-out m e x i j s =
    subst (λ y. Same m y (pow e x j)) (sym (pow-sum e x i j))
    (subst (λ y. Same m (pair_product e (pow e x i) (pow e x j)) y) (neutral e (pow e x j))
    (same-product m e (pow e x i) (pow e x j) (1, 0) (pow e x j) s (refl, refl)))

back : (m : ℕ) (x y : Pair) → Same m x y → Same m y x
back m x y s = (sym s.0, sym s.1)

periods : (m e : ℕ) (x : Pair) → ArePeriods (IsOne m e x)
periods m e x = record {
  none = (refl, refl);
  sum = λ i j s t. both-same m (pow e x (i + j)) (pow e x j) (1, 0) (left-out m e x i j s) t;
  rest = λ i j s t. both-same m (pow e x j) (pow e x (i + j)) (1, 0)
      (back m (pow e x (i + j)) (pow e x j) (left-out m e x i j s)) t;
}

-- a unit modulo q is not 0 modulo a divisor of q
unit-not : (q d c u : ℕ) → 1 < q → 1 < d → d * c ≡ q → u ^ (q - 1) % q ≡ 1 → u % d ≡ 0 → ⊥
unit-not q d c u lq ld e one z =
    let k = q - 2 in
    let w : q - 1 ≡ suc k = omega arith in
    let none : u ^ (q - 1) % d ≡ 0 % d = ap (λ i. u ^ i % d) w ∙ ap (λ i. i % d) (pow-suc u k)
    ∙ mul-same d (u ^ k) u (u ^ k) 0 refl (z ∙ sym (zero-mod d))
    ∙ ap (λ i. i % d) (mul-zero (u ^ k)) in
    let some : u ^ (q - 1) % d ≡ 1 % d = below d c q (u ^ (q - 1)) 1 e
    (one ∙ sym (mod-eq_of_lt lq)) in
    let bad : 0 ≡ 1 = sym (zero-mod d) ∙ sym none ∙ some ∙ mod-eq_of_lt ld in
    omega (arith, bad)

proper-pair : (q e : ℕ) (x : Pair) (n d c : ℕ) (qs : List ℕ) → 1 < q → n < 2 ^ 521 → q < 2 ^ 521
    → 1 < d → d * c ≡ q → is_proper_pair q e x n qs ≡ true → Proper (IsOne d e x) n qs
proper-pair q e x n d c [] lq ln l ld f h = tt
proper-pair q e x n d c (r ∷ rs) lq ln l ld f h =
    let y = pair_power 521 q e x (n / r) in
    let u = y.0 + (q - 1) in
    let t = both (is_unit q u) (is_proper_pair q e x n rs) h in
    let one : u ^ (q - 1) % q ≡ 1 = sym (power_is 521 q u (q - 1) (omega arith))
    ∙ eqb-true (power 521 q u (q - 1)) 1 t.0 in
    let same = pair_power_is 521 q e x (n / r) (quotient_below n r (2 ^ 521) ln) in (
      λ s.
          let first : y.0 % d ≡ 1 % d = below d c q y.0 (pow e x (n / r)).0 f same.0 ∙ s.0 in
          let whole : 1 + (q - 1) ≡ c * d = omega (arith, f) in
          let zero-is : u % d ≡ 0 = add-same d y.0 (q - 1) 1 (q - 1) first refl
          ∙ ap (λ i. i % d) whole ∙ mul-mod_left c d in
          unit-not q d c u lq ld f one zero-is,
      proper-pair q e x n d c rs lq ln l ld f t.1,
    )

-- two powers of an order that is not reached are not the same
apart : (d e : ℕ) (x : Pair) (n : ℕ) (qs : List ℕ) → IsOne d e x n → product qs ≡ n
    → AllInverses qs → Proper (IsOne d e x) n qs → (i j : ℕ) → i < j → j < n
    → Same d (pow e x i) (pow e x j) → ⊥
apart d e x n qs period whole f pr i j ij jn s =
    let k = n - i in
    let wi : i + k ≡ n = omega arith in
    let wj : j + k ≡ n + (j - i) = omega arith in
    let first : Same d (pow e x n) (pair_product e (pow e x j) (pow e x k)) =
    subst (λ y. Same d y (pair_product e (pow e x j) (pow e x k)))
    (sym (pow-sum e x i k) ∙ ap (pow e x) wi)
    (same-product d e (pow e x i) (pow e x k) (pow e x j) (pow e x k) s (refl, refl)) in
    let second : Same d (pow e x n) (pow e x (n + (j - i))) =
    subst (λ y. Same d (pow e x n) y) (sym (pow-sum e x j k) ∙ ap (pow e x) wj) first in
    let third : IsOne d e x (j - i) = both-same d (pow e x (j - i)) (pow e x (n + (j - i))) (1, 0)
    (back d (pow e x (n + (j - i))) (pow e x (j - i)) (left-out d e x n (j - i) period))
    (both-same d (pow e x (n + (j - i))) (pow e x n) (1, 0)
    (back d (pow e x n) (pow e x (n + (j - i))) second) period) in
    order (IsOne d e x) (periods d e x) n qs period whole f pr (j - i) (j - i) (omega arith)
    (omega arith) (omega arith) third

-- ---- divisors
no-divisor : (q e : ℕ) (x : Pair) (qs : List ℕ) → 1 < q → product qs ≡ q + 1 → AllInverses qs
    → (d c : ℕ) → 1 < d → d * c ≡ q → d ≤ c → IsOne d e x (q + 1)
    → Proper (IsOne d e x) (q + 1) qs → ⊥
no-divisor q e x qs lq whole f d c ld eq le period pr =
    let pos : 0 < d = omega arith in
    let code : ℕ → ℕ = λ k. (pow e x k).0 % d * d + (pow e x k).1 % d in
    let most : d * d ≤ d * c = mul-le d d d c (omega arith) le in
    let many = pigeons (q + 1) (d * d) code
    (λ k h.
    let l0 = mod-lt (pow e x k).0 pos in
    let l1 = mod-lt (pow e x k).1 pos in
    let l2 = mul-le ((pow e x k).0 % d + 1) d d d (omega (arith, l0)) (omega arith) in
    omega (arith, l1, l2))
    (λ i j ij jn same.
    apart d e x (q + 1) qs period whole f pr i j ij jn
    (same_from_place ((pow e x i).0 % d) ((pow e x i).1 % d) ((pow e x j).0 % d)
    ((pow e x j).1 % d) d (mod-lt (pow e x i).1 pos) (mod-lt (pow e x j).1 pos) same)) in
    omega (arith, many, most, eq)

-- a number that is no product has inverses
inverses-from : (q : ℕ) → 1 < q → ((d c : ℕ) → 1 < d → d * c ≡ q → d ≤ c → ⊥) → HasInverses q
inverses-from q l none = record {
  above = l;
  inverse_of = λ a ne.
      let small : a % q < q = mod-lt a (let r : 0 < q = omega arith in r) in
      let i = inverse-below q l none (a % q) (a % q) (omega arith) (omega arith) small in
      (i.0, sym (mul-mod_first a i.0 q) ∙ i.1);
}
  where
    no-product : (q : ℕ) → ((d c : ℕ) → 1 < d → d * c ≡ q → d ≤ c → ⊥) → (m t : ℕ) → 1 < m
        → 1 < t → m * t ≡ q → ⊥
    no-product q none m t lm lt e =
        elim (cases_lt t m) [
          | inl less ↦ none t m lt (omega (arith, e)) (omega arith)
          | inr more ↦ none m t lm e more
        ]

    step : (q m t r b : ℕ) → 1 < q → m * t + r ≡ q → (r * b) % q ≡ 1
        → (m * (t * b * (q - 1))) % q ≡ 1
    step q m t r b l e one =
        let k = q - 1 in
        let w : q ≡ k + 1 = omega arith in
        to_mod q (m * (t * b * k)) (r * b) (r * b) (b * k)
        (omega (arith, ap (λ z. z * (b * k)) e, ap (λ z. r * b * z) w)) ∙ one

    factor-above : (q m t : ℕ) → m < q → m * t ≡ q → 1 < t
    factor-above q m zero l e = absurd (omega (arith, e))
    factor-above q m (suc zero) l e = absurd (omega (arith, e))
    factor-above q m (suc (suc t)) l e = omega arith

    inverse-below : (q : ℕ) → 1 < q → ((d c : ℕ) → 1 < d → d * c ≡ q → d ≤ c → ⊥)
        → (fuel m : ℕ) → m ≤ fuel → 0 < m → m < q → (b : ℕ) × ((m * b) % q ≡ 1)
    inverse-below q l none zero m le pos lt = absurd (omega arith)
    inverse-below q l none (suc fuel) m le pos lt =
        let t = q / m in
        let r = q % m in
        let rl : r < m = mod-lt q pos in
        let split : m * t + r ≡ q = omega (arith, div-add-mod' q m) in
        elim (cases_eq m 1) [
          | inl one ↦ (1, ap (λ z. (z * 1) % q) one ∙ mod-eq_of_lt l)
          | inr other ↦ elim (cases_eq r 0) [
            | inl z ↦
                let e : m * t ≡ q = omega arith in
                absurd (no-product q none m t (omega arith) (factor-above q m t lt e) e)
            | inr nz ↦
                let i = inverse-below q l none fuel r (omega arith) (omega arith) (omega arith) in
                (t * i.0 * (q - 1), step q m t r i.0 l split i.1)
          ]
        ]

-- ---- the certificate of a pair
pub lucas-pair : (p e u v : ℕ) (qs : List ℕ) → pair_has_order p e (u, v) qs ≡ true
    → AllInverses qs → HasInverses p
lucas-pair p e u v qs h f =
    let n = p + 1 in
    let y = pair_power 521 p e (u, v) n in
    let proper = is_proper_pair p e (u, v) n qs in
    let whole = eqb (product qs) n in
    let t1 = both (ltb 1 p) (ltb n (2 ^ 521) && (whole && (eqb y.0 1 && (eqb y.1 0 && proper)))) h in
    let t2 = both (ltb n (2 ^ 521)) (whole && (eqb y.0 1 && (eqb y.1 0 && proper))) t1.1 in
    let t3 = both whole (eqb y.0 1 && (eqb y.1 0 && proper)) t2.1 in
    let t4 = both (eqb y.0 1) (eqb y.1 0 && proper) t3.1 in
    let t5 = both (eqb y.1 0) proper t4.1 in
    let l = ltb-true 1 p t1.0 in
    let ln = ltb-true n (2 ^ 521) t2.0 in
    let same = pair_power_is 521 p e (u, v) n ln in
    let period : IsOne p e (u, v) n = (
      sym same.0 ∙ ap (λ z. z % p) (eqb-true y.0 1 t4.0),
      sym same.1 ∙ ap (λ z. z % p) (eqb-true y.1 0 t5.0),
    ) in
    inverses-from p l (λ d c ld eq le.
    no-divisor p e (u, v) qs l (eqb-true (product qs) n t3.0) f d c ld eq le (
      below d c p (pow e (u, v) n).0 1 eq period.0,
      below d c p (pow e (u, v) n).1 0 eq period.1,
    ) (proper-pair p e (u, v) n d c qs l ln (omega arith) ld eq t5.1))
