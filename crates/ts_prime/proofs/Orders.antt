-- The order of an element, of which a power is 1 and no power by a prime factor less of it is.
use Rattle.std.proofs.Common.{◌≡◌, ◌≢◌, ℕ, zero, suc, ◌+◌, ◌-◌, ◌*◌, ◌/◌, ◌%◌, ◌^◌, ◌<◌, ◌≤◌}
use Rattle.std.proofs.Common.{List, [], ◌∷◌, sym, ap, subst, ◌∙◌, ◌⊎◌, inl, inr, arith}
use Rattle.std.proofs.Math.Nat.{mod-lt, zero-mod, mul-zero, zero-mul, mul-one, mul_comm, mul_assoc}
use Rattle.std.proofs.Math.Nat.{eq_of_mul-eq-mul_left, mul-div_cancel_left, mul-mod_left, pow-succ'}
use Rattle.std.proofs.Math.Nat.{div-add-mod'}
use Rattle.std.proofs.lemmas.Bool.{cases_eq}
use Rattle.std.proofs.lemmas.Nat.{mul-mod_first, mul-mod_second}
use Rattle.ts_prime.specs.Prime.{IsFermat}
use Rattle.ts_prime.specs.inside.Certificate.{product}

-- each number that p does not divide has an inverse
pub record HasInverses (p : ℕ) : Type 0 where
  pub above : 1 < p
  pub inverse_of : (a : ℕ) → a % p ≢ 0 → (b : ℕ) × ((a * b) % p ≡ 1)

pub inverses-fermat : (p : ℕ) → IsFermat p → HasInverses p
inverses-fermat p f =
    let above = f.above in
    let k = p - 2 in
    let w : p - 1 ≡ suc k = omega arith in
    record {
      above = f.above;
      inverse_of = λ a ne. (
        a ^ k,
        ap (λ v. v % p) (sym (pow-succ' a k))
            ∙ ap (λ v. a ^ v % p) (sym w) ∙ f.power a ne,
      );
    }

abbrev pub AllInverses : List ℕ → Type 0
AllInverses [] = Unit {0}
AllInverses (q ∷ qs) = HasInverses q × AllInverses qs

abbrev Hits : List ℕ → ℕ → Type 0
Hits [] m = ⊥
Hits (q ∷ qs) m = (m % q ≡ 0) ⊎ Hits qs m

-- a prime that divides a product and not its second factor divides the first
euclid : (q e m : ℕ) → HasInverses q → (e * m) % q ≡ 0 → m % q ≢ 0 → e % q ≡ 0
euclid q e m f h ne =
    let i = f.inverse_of m ne in
    let k = i.0 in
    ap (λ v. v % q) (sym (mul-one e)) ∙ ap (λ v. (e * v) % q) (sym i.1)
    ∙ mul-mod_second e (m * k) q ∙ ap (λ v. v % q) (sym (mul_assoc e m k))
    ∙ sym (mul-mod_first (e * m) k q) ∙ ap (λ v. v * k % q) h ∙ ap (λ v. v % q) (zero-mul k)
    ∙ zero-mod q

one_factor : (e m : ℕ) → e * m ≡ 1 → m ≡ 1
one_factor zero m h = absurd (omega (arith, h, zero-mul m))
one_factor (suc e) zero h = absurd (omega (arith, h))
one_factor (suc e) (suc m) h = omega arith

-- a divisor of a product of primes is 1 or is divided by one of them
factor : (qs : List ℕ) → AllInverses qs → (e m : ℕ) → e * m ≡ product qs → (m ≡ 1) ⊎ Hits qs m
factor [] f e m h = inl (one_factor e m h)
factor (q ∷ qs) f e m h =
    elim (cases_eq (m % q) 0) [
      | inl z ↦ inr (inl z)
      | inr ne ↦
          let above = f.0.above in
          let z : (e * m) % q ≡ 0 = ap (λ v. v % q) (h ∙ mul_comm q (product qs))
          ∙ mul-mod_left (product qs) q in
          let d = euclid q e m f.0 z ne in
          let w : e ≡ q * (e / q) = omega arith in
          let g : q * (e / q * m) ≡ q * product qs = sym (mul_assoc q (e / q) m)
          ∙ ap (λ v. v * m) (sym w) ∙ h in
          elim (factor qs f.1 (e / q) m (eq_of_mul-eq-mul_left q (omega arith) (e / q * m) (product qs)
          g)) [
            | inl one ↦ inl one
            | inr hit ↦ inr (inr hit)
          ]
    ]

-- of which exponents the power is 1
pub record ArePeriods (One : ℕ → Type 0) : Type 0 where
  pub none : One 0
  pub sum : (i j : ℕ) → One i → One j → One (i + j)
  pub rest : (i j : ℕ) → One i → One (i + j) → One j

-- no power to the n over one of the factors is 1
abbrev pub Proper : (ℕ → Type 0) → ℕ → List ℕ → Type 0
Proper One n [] = Unit {0}
Proper One n (q ∷ qs) = (One (n / q) → ⊥) × Proper One n qs

multiple : (One : ℕ → Type 0) → ArePeriods One → (d m : ℕ) → One d → One (d * m)
multiple One s d zero h = subst One (sym (mul-zero d)) s.none
multiple One s d (suc m) h =
    let w : d * m + d ≡ d * suc m = omega arith in
    subst One w (s.sum (d * m) d (multiple One s d m h) h)

no_hit : (One : ℕ → Type 0) → ArePeriods One → (n d m : ℕ) → n ≡ d * m → One d → (qs : List ℕ)
    → AllInverses qs → Proper One n qs → Hits qs m → ⊥
no_hit One s n d m e one [] f pr hit = hit
no_hit One s n d m e one (q ∷ qs) f pr (inr hit) = no_hit One s n d m e one qs f.1 pr.1 hit
no_hit One s n d m e one (q ∷ qs) f pr (inl z) =
    let above = f.0.above in
    let w : m ≡ q * (m / q) = omega arith in
    let whole : n ≡ q * (d * (m / q)) = e ∙ ap (λ v. d * v) w
    ∙ (let r : d * (q * (m / q)) ≡ q * (d * (m / q)) = omega arith in r) in
    let part : n / q ≡ d * (m / q) = ap (λ v. v / q) whole
    ∙ mul-div_cancel_left (d * (m / q)) (let r : 0 < q = omega arith in r) in
    pr.0 (subst One (sym part) (multiple One s d (m / q) one))

-- the order is no less than n
pub order : (One : ℕ → Type 0) → ArePeriods One → (n : ℕ) (qs : List ℕ) → One n → product qs ≡ n
    → AllInverses qs → Proper One n qs → (fuel d : ℕ) → d ≤ fuel → 0 < d → d < n → One d → ⊥
order One s n qs period whole f pr zero d le pos lt one = omega arith
order One s n qs period whole f pr (suc fuel) d le pos lt one =
    let m = n / d in
    let r = n % d in
    let rl : r < d = mod-lt n pos in
    let split : d * m + r ≡ n = omega (arith, div-add-mod' n d) in
    elim (cases_eq r 0) [
      | inl z ↦
          let e : n ≡ d * m = omega arith in
          elim (factor qs f d m (sym e ∙ sym whole)) [
            | inl o ↦ (let k : n ≡ d = e ∙ ap (λ v. d * v) o ∙ mul-one d in omega (arith, k))
            | inr hit ↦ no_hit One s n d m e one qs f pr hit
          ]
      | inr nz ↦
          let left : One r = s.rest (d * m) r (multiple One s d m one)
          (subst One (sym split) period) in
          order One s n qs period whole f pr fuel r (omega arith) (omega arith) (omega arith) left
    ]
