-- The normal form of an expression has its value: what is one polynomial is equal modulo each p.
use Rattle.std.proofs.Common.{◌≡◌, ℕ, zero, suc, ◌+◌, ◌-◌, ◌*◌, ◌/◌, ◌%◌, ◌<◌, Bool, true, false, cond, eqb, List, refl, sym, ap, ◌∙◌, arith}
use Rattle.std.proofs.Math.Nat.{add-mul-mod_self_right, mod-lt, add-zero}
use Rattle.std.proofs.lemmas.Bool.{eqb-true}
use Rattle.ts_ring.specs.Modular.{add, sub, mul}
use Rattle.ts_ring.specs.Expression.{Expression, var, num, plus, minus, times, first, rest, nth, value}
use Rattle.ts_ring.specs.Polynomial.{Polynomial, constant, horner, plus_constant, sum, negative, times_each, times_constant, with_rest, times_rest, product, variable, normal_form, is_zero, are_same}

-- ---- what a polynomial is: a difference of two numbers
abbrev up : Polynomial → List ℕ → ℕ
up (constant a b) values = a
up (horner q r) values = up r (rest values) + first values * up q values

abbrev down : Polynomial → List ℕ → ℕ
down (constant a b) values = b
down (horner q r) values = down r (rest values) + first values * down q values

up-plus_constant : (a b : ℕ) (p : Polynomial) (values : List ℕ)
    → up (plus_constant a b p) values ≡ a + up p values
up-plus_constant a b (constant c d) values = refl
up-plus_constant a b (horner q r) values = omega (arith, up-plus_constant a b r (rest values))

down-plus_constant : (a b : ℕ) (p : Polynomial) (values : List ℕ)
    → down (plus_constant a b p) values ≡ b + down p values
down-plus_constant a b (constant c d) values = refl
down-plus_constant a b (horner q r) values = omega (arith, down-plus_constant a b r (rest values))

up-sum : (p q : Polynomial) (values : List ℕ) → up (sum p q) values ≡ up p values + up q values
up-sum (constant a b) p values = up-plus_constant a b p values
up-sum (horner q r) (constant a b) values = omega (arith, up-plus_constant a b r (rest values))
up-sum (horner q r) (horner s t) values = rw (
  up-sum q s values,
  up-sum r t (rest values),
) (omega arith)

down-sum : (p q : Polynomial) (values : List ℕ)
    → down (sum p q) values ≡ down p values + down q values
down-sum (constant a b) p values = down-plus_constant a b p values
down-sum (horner q r) (constant a b) values = omega (arith, down-plus_constant a b r (rest values))
down-sum (horner q r) (horner s t) values = rw (
  down-sum q s values,
  down-sum r t (rest values),
) (omega arith)

up-negative : (p : Polynomial) (values : List ℕ) → up (negative p) values ≡ down p values
up-negative (constant a b) values = refl
up-negative (horner q r) values = rw (up-negative q values, up-negative r (rest values)) refl

down-negative : (p : Polynomial) (values : List ℕ) → down (negative p) values ≡ up p values
down-negative (constant a b) values = refl
down-negative (horner q r) values = rw (down-negative q values, down-negative r (rest values)) refl

up-times_each : (a b : ℕ) (p : Polynomial) (values : List ℕ)
    → up (times_each a b p) values ≡ a * up p values + b * down p values
up-times_each a b (constant c d) values = refl
up-times_each a b (horner q r) values = rw (
  up-times_each a b q values,
  up-times_each a b r (rest values),
) (omega arith)

down-times_each : (a b : ℕ) (p : Polynomial) (values : List ℕ)
    → down (times_each a b p) values ≡ a * down p values + b * up p values
down-times_each a b (constant c d) values = refl
down-times_each a b (horner q r) values = rw (
  down-times_each a b q values,
  down-times_each a b r (rest values),
) (omega arith)

up-times_constant : (a b : ℕ) (p : Polynomial) (values : List ℕ)
    → up (times_constant a b p) values ≡ a * up p values + b * down p values
up-times_constant a b p values =
    elim (eqb (a + b) 0) as (λ t. eqb (a + b) 0 ≡ t
    → up (elim t as (λ v. Polynomial) [
      | true ↦ constant 0 0
      | false ↦
          times_each a b p
    ]) values ≡ a * up p values + b * down p values) [
      | true ↦ λ h. let z = eqb-true (a + b) 0 h in let x : a ≡ 0 = omega arith in let y : b ≡ 0 =
          omega arith in rw (x, y) (omega arith)
      | false ↦ λ h. up-times_each a b p values
    ] refl

up-with_rest : (q r : Polynomial) (values : List ℕ)
    → up (with_rest q r) values ≡ up r (rest values) + first values * up q values
up-with_rest (constant a b) (constant c d) values =
    elim (eqb (a + b) 0) as (λ t. eqb (a + b) 0 ≡ t
    → up (elim t as (λ v. Polynomial) [
      | true ↦ constant c d
      | false ↦
          horner (constant a b) (constant c d)
    ]) values ≡ up (constant c d) (rest values) + first
    values * up (constant a b) values) [
      | true ↦ λ h. let z = eqb-true (a + b) 0 h in let x : a ≡ 0 = omega arith in rw x (omega arith)
      | false ↦ λ h. refl
    ] refl
up-with_rest (constant a b) (horner q r) values = refl
up-with_rest (horner q s) r values = refl

up-times_rest : (f : Polynomial → Polynomial) (u d : ℕ) (values : List ℕ)
    → ((s : Polynomial) → up (f s) (rest values) ≡ u * up s (rest values) + d * down s
    (rest values))
    → (p : Polynomial) → up (times_rest f p) values ≡ u * up p values + d * down p values
up-times_rest f u d values h (constant a b) = rw
    (up-with_rest (constant 0 0) (f (constant a b)) values, h (constant a b)) (omega arith)
up-times_rest f u d values h (horner q r) = rw (
  up-with_rest (times_rest f q) (f r) values,
  h r,
  up-times_rest f u d values h q,
) (omega arith)

up-product : (p q : Polynomial) (values : List ℕ)
    → up (product p q) values ≡ up p values * up q values + down p values * down q values
up-product (constant a b) p values = up-times_constant a b p values
up-product (horner q r) p values =
    rw (
      up-sum (times_rest (product r) p) (with_rest (product q p) (constant 0 0)) values,
      up-times_rest (product r) (up r (rest values)) (down r (rest values)) values
          (λ s. up-product r s (rest values)) p,
      up-with_rest (product q p) (constant 0 0) values,
      up-product q p values,
    ) (omega arith)

down-times_constant : (a b : ℕ) (p : Polynomial) (values : List ℕ)
    → down (times_constant a b p) values ≡ a * down p values + b * up p values
down-times_constant a b p values =
    elim (eqb (a + b) 0) as (λ t. eqb (a + b) 0 ≡ t
    → down (elim t as (λ v. Polynomial) [
      | true ↦ constant 0 0
      | false ↦
          times_each a b p
    ]) values ≡ a * down p values + b * up p values) [
      | true ↦ λ h. let z = eqb-true (a + b) 0 h in let x : a ≡ 0 = omega arith in let y : b ≡ 0 =
          omega arith in rw (x, y) (omega arith)
      | false ↦ λ h. down-times_each a b p values
    ] refl

down-with_rest : (q r : Polynomial) (values : List ℕ)
    → down (with_rest q r) values ≡ down r (rest values) + first values * down q values
down-with_rest (constant a b) (constant c d) values =
    elim (eqb (a + b) 0) as (λ t. eqb (a + b) 0 ≡ t
    → down (elim t as (λ v. Polynomial) [
      | true ↦ constant c d
      | false ↦
          horner (constant a b) (constant c d)
    ]) values ≡ down (constant c d) (rest values) + first
    values * down (constant a b) values) [
      | true ↦ λ h. let z = eqb-true (a + b) 0 h in let y : b ≡ 0 = omega arith in rw y (omega arith)
      | false ↦ λ h. refl
    ] refl
down-with_rest (constant a b) (horner q r) values = refl
down-with_rest (horner q s) r values = refl

down-times_rest : (f : Polynomial → Polynomial) (u d : ℕ) (values : List ℕ)
    → ((s : Polynomial) → down (f s) (rest values) ≡ u * down s (rest values) + d * up s
    (rest values))
    → (p : Polynomial) → down (times_rest f p) values ≡ u * down p values + d * up p values
down-times_rest f u d values h (constant a b) =
    rw (down-with_rest (constant 0 0) (f (constant a b)) values, h (constant a b)) (omega arith)
down-times_rest f u d values h (horner q r) = rw (
  down-with_rest (times_rest f q) (f r) values,
  h r,
  down-times_rest f u d values h q,
) (omega arith)

down-product : (p q : Polynomial) (values : List ℕ)
    → down (product p q) values ≡ up p values * down q values + down p values * up q values
down-product (constant a b) p values = down-times_constant a b p values
down-product (horner q r) p values =
    rw (
      down-sum (times_rest (product r) p) (with_rest (product q p) (constant 0 0)) values,
      down-times_rest (product r) (up r (rest values)) (down r (rest values)) values
          (λ s. down-product r s (rest values)) p,
      down-with_rest (product q p) (constant 0 0) values,
      down-product q p values,
    ) (omega arith)

up-variable : (i : ℕ) (values : List ℕ) → up (variable i) values ≡ nth i values
up-variable zero values = omega arith
up-variable (suc i) values = omega (arith, up-variable i (rest values))

down-variable : (i : ℕ) (values : List ℕ) → down (variable i) values ≡ 0
down-variable zero values = omega arith
down-variable (suc i) values = omega (arith, down-variable i (rest values))

both : (a b : Bool) → cond a b false ≡ true → (a ≡ true) × (b ≡ true)
both true b h = (refl, h)
both false b h = absurd (cc)

level : (p : Polynomial) (values : List ℕ) → is_zero p ≡ true → up p values ≡ down p values
level (constant a b) values h = eqb-true a b h
level (horner q r) values h =
    let t = both (is_zero q) (is_zero r) h in
    rw (level q values t.0, level r (rest values) t.1) refl

-- ---- modulo p
from_mod : (p a b : ℕ) → a % p ≡ b % p → a + b / p * p ≡ b + a / p * p
from_mod p a b h = omega arith

to_mod : (p a b k l : ℕ) → a + k * p ≡ b + l * p → a % p ≡ b % p
to_mod p a b k l h = sym (add-mul-mod_self_right a k p) ∙ ap (λ z. z % p) h
    ∙ add-mul-mod_self_right b l p

sum_step : (p f d u g e v : ℕ) → (f + d) % p ≡ u % p → (g + e) % p ≡ v % p
    → (add p f g + (d + e)) % p ≡ (u + v) % p
sum_step p f d u g e v h k =
    to_mod p (add p f g + (d + e)) (u + v) ((f + g) / p + (u / p + v / p))
    ((f + d) / p + (g + e) / p)
    (let x = from_mod p (f + d) u h in let y = from_mod p (g + e) v k in omega arith)

sub_step : (p f d u g e v : ℕ) → 0 < p → (f + d) % p ≡ u % p → (g + e) % p ≡ v % p
    → (sub p f g + (d + v)) % p ≡ (u + e) % p
sub_step p f d u g e v pos h k =
    let x = from_mod p (f + d) u h in let y = from_mod p (g + e) v k in let z : g % p < p =
    mod-lt g pos in
    to_mod p (sub p f g + (d + v)) (u + e) ((f + (p - g % p)) / p + (u / p + (g + e) / p))
    ((f + d) / p + v / p + 1 + g / p)
    (omega arith)

mul_step : (p f d u g e v : ℕ) → (f + d) % p ≡ u % p → (g + e) % p ≡ v % p
    → (mul p f g + (u * e + d * v)) % p ≡ (u * v + d * e) % p
mul_step p f d u g e v h k =
    let x = from_mod p (f + d) u h in let y = from_mod p (g + e) v k in
    let fy = ap (λ z. f * z) y in
    let vx = ap (λ z. z * v) x in
    let ex = ap (λ z. z * e) x in
    to_mod p (mul p f g + (u * e + d * v)) (u * v + d * e)
    (f * g / p + (f * (v / p) + (u / p) * v + (f + d) / p * e))
    (f * ((g + e) / p) + (f + d) / p * v + u / p * e)
    (omega arith)

close : (p : ℕ) → 0 < p → (values : List ℕ) (e : Expression)
    → (value p values e + down (normal_form e) values) % p ≡ up (normal_form e) values % p
close p pos values (var i) = rw (up-variable i values, down-variable i values, add-zero) refl
close p pos values (num n) = rw add-zero refl
close p pos values (plus a b) =
    rw (
      up-sum (normal_form a) (normal_form b) values,
      down-sum (normal_form a) (normal_form b) values,
    )
    (sum_step p (value p values a) (down (normal_form a) values) (up (normal_form a) values)
    (value p values b) (down (normal_form b) values) (up (normal_form b) values)
    (close p pos values a) (close p pos values b))
close p pos values (minus a b) =
    rw (
      up-sum (normal_form a) (negative (normal_form b)) values,
      down-sum (normal_form a) (negative (normal_form b)) values,
      up-negative (normal_form b) values,
      down-negative (normal_form b) values,
    )
    (sub_step p (value p values a) (down (normal_form a) values) (up (normal_form a) values)
    (value p values b) (down (normal_form b) values) (up (normal_form b) values) pos
    (close p pos values a) (close p pos values b))
close p pos values (times a b) =
    rw (
      up-product (normal_form a) (normal_form b) values,
      down-product (normal_form a) (normal_form b) values,
    )
    (mul_step p (value p values a) (down (normal_form a) values) (up (normal_form a) values)
    (value p values b) (down (normal_form b) values) (up (normal_form b) values)
    (close p pos values a) (close p pos values b))

settle : (p f d u g e v : ℕ) → (f + d) % p ≡ u % p → (g + e) % p ≡ v % p → u + e ≡ d + v
    → f % p ≡ g % p
settle p f d u g e v h k same =
    let x = from_mod p (f + d) u h in let y = from_mod p (g + e) v k in
    to_mod p f g (u / p + (g + e) / p) ((f + d) / p + v / p) (omega arith)

pub ring : (p : ℕ) → 0 < p → (values : List ℕ) (a b : Expression) → are_same a b ≡ true
    → value p values a % p ≡ value p values b % p
ring p pos values a b h =
    let l = level (normal_form (minus a b)) values h in
    settle p (value p values a) (down (normal_form a) values) (up (normal_form a) values)
    (value p values b) (down (normal_form b) values) (up (normal_form b) values)
    (close p pos values a) (close p pos values b)
    (rw (
      up-sum (normal_form a) (negative (normal_form b)) values,
      down-sum (normal_form a) (negative (normal_form b)) values,
      up-negative (normal_form b) values,
      down-negative (normal_form b) values,
    ) at l)
