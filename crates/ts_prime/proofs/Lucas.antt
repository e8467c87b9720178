-- From a certificate to Fermat's theorem, and from there to a field and a prime.
use Rattle.std.proofs.Common.{◌≡◌, ℕ, zero, suc, ◌+◌, ◌-◌, ◌*◌, ◌/◌, ◌%◌, ◌^◌, ◌<◌, Bool}
use Rattle.std.proofs.Common.{true, false, not, ◌&&◌, ◌||◌, eqb, ltb, List, [], ◌∷◌, refl, sym, ap}
use Rattle.std.proofs.Common.{subst, ◌∙◌, ◌⊎◌, inl, inr, arith}
use Rattle.std.proofs.Math.Nat.{pow-zero, pow-suc, pow-succ', mod-eq_of_lt, mod-mod, mod-lt}
use Rattle.std.proofs.Math.Nat.{mod_self, zero-mod, mul-zero, zero-mul, one-mul, mul_comm}
use Rattle.std.proofs.lemmas.Bool.{cases_eq, eqb-true, eqb-false, ltb-true, not-true}
use Rattle.std.proofs.lemmas.Nat.{pow-add, pow-mod, mul-mod_first, mul-mod_second}
use Rattle.ts_ring.specs.Modular.{inverse, IsField}
use Rattle.ts_ring.proofs.Fields.{product-nonzero, nonzero}
use Rattle.ts_prime.specs.Prime.{IsPrime, IsFermat}
use Rattle.ts_prime.specs.inside.Certificate.{Row, row, pair_row, power, product, is_proper}
use Rattle.ts_prime.specs.inside.Certificate.{has_order, pair_has_order, is_row, are_rows}
use Rattle.ts_prime.specs.inside.Certificate.{is_certificate}
use Rattle.ts_prime.proofs.Pigeons.{onto}
use Rattle.ts_prime.proofs.Powers.{power_is, both, quotient_below}
use Rattle.ts_prime.proofs.Orders.{HasInverses, inverses-fermat, AllInverses, ArePeriods, Proper}
use Rattle.ts_prime.proofs.Orders.{order}
use Rattle.ts_prime.proofs.Pairs.{lucas-pair}

-- ---- powers
one_pow : (m : ℕ) → 1 ^ m ≡ 1
one_pow zero = pow-zero 1
one_pow (suc m) = pow-suc 1 m ∙ ap (λ v. v * 1) (one_pow m)

pow_mul : (a d m : ℕ) → a ^ (d * m) ≡ (a ^ d) ^ m
pow_mul a d zero = ap (λ v. a ^ v) (mul-zero d) ∙ pow-zero a ∙ sym (pow-zero (a ^ d))
pow_mul a d (suc m) =
    let e : d * suc m ≡ d * m + d = omega arith in
    ap (λ v. a ^ v) e ∙ pow-add a (d * m) d ∙ ap (λ v. v * a ^ d) (pow_mul a d m)
    ∙ sym (pow-suc (a ^ d) m)

-- a power of what is 1 is 1
multiple_is : (p g d m : ℕ) → 1 < p → g ^ d % p ≡ 1 → g ^ (d * m) % p ≡ 1
multiple_is p g d m l e =
    ap (λ v. v % p) (pow_mul g d m) ∙ sym (pow-mod (g ^ d) m p) ∙ ap (λ v. v ^ m % p) e
    ∙ ap (λ v. v % p) (one_pow m) ∙ mod-eq_of_lt l

sum_is : (p g i j : ℕ) → g ^ i % p ≡ 1 → g ^ (i + j) % p ≡ g ^ j % p
sum_is p g i j e =
    ap (λ v. v % p) (pow-add g i j) ∙ sym (mul-mod_first (g ^ i) (g ^ j) p)
    ∙ ap (λ v. v * g ^ j % p) e ∙ ap (λ v. v % p) (one-mul (g ^ j))

-- ---- primes
abbrev IsOne : ℕ → ℕ → ℕ → Type 0
IsOne p g k = g ^ k % p ≡ 1

periods : (p g : ℕ) → 1 < p → ArePeriods (IsOne p g)
periods p g l = record {
  none = ap (λ v. v % p) (pow-zero g) ∙ mod-eq_of_lt l;
  sum = λ i j e f. sum_is p g i j e ∙ f;
  rest = λ i j e f. sym (sum_is p g i j e) ∙ f;
}

pub fermat : (p g : ℕ) (qs : List ℕ) → 1 < p → g ^ (p - 1) % p ≡ 1 → product qs ≡ p - 1
    → AllInverses qs → Proper (IsOne p g) (p - 1) qs → IsFermat p
fermat p g qs l period whole f pr =
    let n = p - 1 in
    record {
      above = l;
      power = λ a nz.
          let pos : 0 < p = omega arith in
          let al : a % p < p = mod-lt a pos in
          let found = onto n (λ k. g ^ k % p)
          (λ k h.
          let kl : g ^ k % p < p = mod-lt (g ^ k) pos in (
            elim (cases_eq (g ^ k % p) 0) [
              | inl z ↦ absurd (
                  let w : k + (n - k) ≡ n = omega arith in
                  let bad : 0 ≡ 1 =
                  sym (zero-mod p) ∙ ap (λ v. v % p) (sym (zero-mul (g ^ (n - k))))
                  ∙ ap (λ v. v * g ^ (n - k) % p) (sym z)
                  ∙ mul-mod_first (g ^ k) (g ^ (n - k)) p
                  ∙ ap (λ v. v % p) (sym (pow-add g k (n - k))) ∙ ap (λ v. g ^ v % p) w
                  ∙ period in
                  omega (arith, bad))
              | inr some ↦ omega arith
            ],
            omega arith,
          ))
          (λ i j ij jn same.
          let d = j - i in
          let wi : (n - i) + i ≡ n = omega arith in
          let wj : (n - i) + j ≡ n + d = omega arith in
          let one : g ^ d % p ≡ 1 =
          sym (sum_is p g n d period) ∙ ap (λ v. g ^ v % p) (sym wj)
          ∙ ap (λ v. v % p) (pow-add g (n - i) j)
          ∙ sym (mul-mod_second (g ^ (n - i)) (g ^ j) p)
          ∙ ap (λ v. g ^ (n - i) * v % p) (sym same) ∙ mul-mod_second (g ^ (n - i)) (g ^ i) p
          ∙ ap (λ v. v % p) (sym (pow-add g (n - i) i)) ∙ ap (λ v. g ^ v % p) wi ∙ period in
          order (IsOne p g) (periods p g l) n qs period whole f pr d d (omega arith) (omega arith)
          (omega arith) one)
          (a % p) (omega arith) (omega arith) in
          let k = found.0 in
          sym (pow-mod a n p) ∙ ap (λ v. v ^ n % p) (sym found.2) ∙ pow-mod (g ^ k) n p
          ∙ ap (λ v. v % p) (sym (pow_mul g k n))
          ∙ ap (λ v. g ^ v % p) (mul_comm k n) ∙ multiple_is p g n k l period;
    }

proper_is : (p g n : ℕ) (qs : List ℕ) → n < 2 ^ 521 → is_proper p g n qs ≡ true
    → Proper (IsOne p g) n qs
proper_is p g n [] l h = tt
proper_is p g n (q ∷ qs) l h =
    let t = both (not (eqb (power 521 p g (n / q)) 1)) (is_proper p g n qs) h in (
      λ e. eqb-false (power 521 p g (n / q)) 1 (not-true (eqb (power 521 p g (n / q)) 1) t.0)
          (power_is 521 p g (n / q) (quotient_below n q (2 ^ 521) l) ∙ e),
      proper_is p g n qs l t.1,
    )

lucas : (p g : ℕ) (qs : List ℕ) → has_order p g qs ≡ true → AllInverses qs → IsFermat p
lucas p g qs h f =
    let proper = is_proper p g (p - 1) qs in
    let period = eqb (power 521 p g (p - 1)) 1 in
    let whole = eqb (product qs) (p - 1) in
    let t1 = both (ltb 1 p) (ltb (p - 1) (2 ^ 521) && (whole && (period && proper))) h in
    let t2 = both (ltb (p - 1) (2 ^ 521)) (whole && (period && proper)) t1.1 in
    let t3 = both whole (period && proper) t2.1 in
    let t4 = both period proper t3.1 in
    let below = ltb-true (p - 1) (2 ^ 521) t2.0 in
    fermat p g qs (ltb-true 1 p t1.0) (sym (power_is 521 p g (p - 1) below)
    ∙ eqb-true (power 521 p g (p - 1)) 1 t4.0)
    (eqb-true (product qs) (p - 1) t3.0) f (proper_is p g (p - 1) qs below t4.1)

-- ---- certificates
either : (a b : Bool) → (a || b) ≡ true → (a ≡ true) ⊎ (b ≡ true)
either true b h = inl refl
either false b h = inr h

all_from : (rows : List Row) → ((q : ℕ) → is_row q rows ≡ true → HasInverses q) → (qs : List ℕ)
    → are_rows qs rows ≡ true → AllInverses qs
all_from rows h [] e = tt
all_from rows h (q ∷ qs) e =
    let t = both (is_row q rows) (are_rows qs rows) e in
    (h q t.0, all_from rows h qs t.1)

certified : (rows : List Row) → is_certificate rows ≡ true → (q : ℕ) → is_row q rows ≡ true
    → HasInverses q
certified [] c q h = absurd cc
certified (row p g factors ∷ rows) c q h =
    let t = both (has_order p g factors) (are_rows factors rows && is_certificate rows) c in
    let s = both (are_rows factors rows) (is_certificate rows) t.1 in
    elim (either (eqb q p) (is_row q rows) h) [
      | inl e ↦ subst HasInverses (sym (eqb-true q p e)) (inverses-fermat p
          (lucas p g factors t.0 (all_from rows (certified rows s.1) factors s.0)))
      | inr more ↦ certified rows s.1 q more
    ]
certified (pair_row p e u v factors ∷ rows) c q h =
    let t = both (pair_has_order p e (u, v) factors) (are_rows factors rows && is_certificate rows)
    c in
    let s = both (are_rows factors rows) (is_certificate rows) t.1 in
    elim (either (eqb q p) (is_row q rows) h) [
      | inl same ↦ subst HasInverses (sym (eqb-true q p same))
          (lucas-pair p e u v factors t.0 (all_from rows (certified rows s.1) factors s.0))
      | inr more ↦ certified rows s.1 q more
    ]

field_of : (p : ℕ) → 3 < p → IsFermat p → IsField p
unfolding inverse
field_of p l f = record {
  above = l;
  inverts = λ a nz.
      let k = p - 2 in
      let w : suc k ≡ p - 1 = omega arith in
      mul-mod_second a (a ^ k) p ∙ ap (λ v. v % p) (sym (pow-succ' a k)) ∙ ap (λ v. a ^ v % p) w
      ∙ f.power a nz;
}

-- the prime of the first row of a certificate
pub field_from : (p g : ℕ) (factors : List ℕ) (rows : List Row)
    → is_certificate (row p g factors ∷ rows) ≡ true → 3 < p → IsField p
field_from p g factors rows c l =
    let t = both (has_order p g factors) (are_rows factors rows && is_certificate rows) c in
    let s = both (are_rows factors rows) (is_certificate rows) t.1 in
    field_of p l (lucas p g factors t.0 (all_from rows (certified rows s.1) factors s.0))

-- ---- primes
-- a field has no factors: two of them would be no zero divisors
pub prime_from : (p : ℕ) → IsField p → IsPrime p
prime_from p f =
    let above = f.above in
    record {
      above = omega arith;
      factors = λ a b e. prime_factors p f a b e;
    }
  where
    prime_factors : (p : ℕ) → IsField p → (a b : ℕ) → a * b ≡ p → (a ≡ 1) ⊎ (b ≡ 1)
    prime_factors p f zero b e = absurd (let above = f.above in omega (arith, e, zero-mul b))
    prime_factors p f (suc zero) b e = inl refl
    prime_factors p f (suc (suc a)) zero e = absurd (let above = f.above in omega (arith, e))
    prime_factors p f (suc (suc a)) (suc zero) e = inr refl
    prime_factors p f (suc (suc a)) (suc (suc b)) e =
        let above = f.above in
        let w : (a + 2) * (b + 2) ≡ p = omega (arith, e) in
        let la : suc (suc a) < p = omega arith in
        let lb : suc (suc b) < p = omega arith in
        absurd (product-nonzero p (suc (suc a)) (suc (suc b)) f
        (nonzero p (suc (suc a)) la (omega arith)) (nonzero p (suc (suc b)) lb (omega arith))
        (mod-mod (suc (suc a) * suc (suc b)) p ∙ ap (λ v. v % p) e ∙ mod_self p))
