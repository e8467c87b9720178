-- Powers modulo a number, by the bits of the exponent.
use Rattle.std.proofs.Common.{◌≡◌, ℕ, zero, suc, ◌+◌, ◌*◌, ◌/◌, ◌%◌, ◌^◌, ◌<◌, Bool, true, false}
use Rattle.std.proofs.Common.{◌&&◌, eqb, refl, sym, ap, ◌∙◌, arith}
use Rattle.std.proofs.Math.Nat.{pow-zero, pow-suc}
use Rattle.std.proofs.lemmas.Bool.{eqb-true, eqb-false}
use Rattle.std.proofs.lemmas.Nat.{pow-add, mul-pow, pow-mod, mul-mod_first}
use Rattle.ts_prime.specs.inside.Certificate.{power}

square_pow : (a j : ℕ) → (a * a) ^ j ≡ a ^ (j + j)
square_pow a j = mul-pow a a j ∙ sym (pow-add a j j)

pub power_is : (fuel p a k : ℕ) → k < 2 ^ fuel → power fuel p a k ≡ a ^ k % p
power_is zero p a k h =
    let e : k ≡ 0 = omega (arith, pow-zero 2) in
    rw (e, pow-zero a) refl
power_is (suc fuel) p a k h =
    let j = k / 2 in
    let half : j < 2 ^ fuel = omega (arith, pow-suc 2 fuel) in
    let high = power fuel p (a * a % p) j in
    let before : high ≡ a ^ (j + j) % p =
    power_is fuel p (a * a % p) j half ∙ pow-mod (a * a) j p ∙ ap (λ v. v % p) (square_pow a j) in
    let one : (t : Bool) → eqb (k % 2) 0 ≡ t → (elim t as (λ v. ℕ) [
      | true ↦ high
      | false ↦
          high * a % p
    ]) ≡ a ^ k % p =
    λ t. elim t as (λ t. eqb (k % 2) 0 ≡ t → (elim t as (λ v. ℕ) [
      | true ↦ high
      | false ↦
          high * a % p
    ]) ≡ a ^ k % p) [
      | true ↦ λ s. let e = eqb-true (k % 2) 0 s in let w : j + j ≡ k = omega arith in before
          ∙ ap (λ v. a ^ v % p) w
      | false ↦ λ s. let e = eqb-false (k % 2) 0 s in let w : suc (j + j) ≡ k = omega arith in
          ap (λ v. v * a % p) before ∙ mul-mod_first (a ^ (j + j)) a p
          ∙ ap (λ v. v % p) (sym (pow-suc a (j + j))) ∙ ap (λ v. a ^ v % p) w
    ] in
    elim (eqb k 0) as (λ t. eqb k 0 ≡ t → (elim t as (λ v. ℕ) [
      | true ↦ 1 % p
      | false ↦
          (elim (eqb (k % 2) 0) as (λ v. ℕ) [ true ↦ high | false ↦ high * a % p ])
    ]) ≡ a ^ k % p) [
      | true ↦ λ t. ap (λ v. v % p) (sym (pow-zero a)) ∙ ap (λ v. a ^ v % p) (sym (eqb-true k 0 t))
      | false ↦ λ t. one (eqb (k % 2) 0) refl
    ] refl

pub both : (a b : Bool) → (a && b) ≡ true → (a ≡ true) × (b ≡ true)
both true b h = (refl, h)
both false b h = absurd cc

pub quotient_below : (n q m : ℕ) → n < m → n / q < m
quotient_below n zero m h = omega arith
quotient_below n (suc q) m h = omega arith
