-- What the normal form gives of numbers below p, and division where p is a field.
use Rattle.std.proofs.Common.{◌≡◌, ◌≢◌, ℕ, ◌+◌, ◌-◌, ◌*◌, ◌%◌, ◌<◌, Bool, true, false, List, [], ◌∷◌, refl, sym, ap, ◌∙◌, arith}
use Rattle.std.proofs.Math.Nat.{mod-mod, mod-lt, mod-eq_of_lt, mul-one as mul-one-nat, mul-zero, zero-mul, zero-mod, mul_comm}
use Rattle.ts_ring.specs.Modular.{add, sub, mul, inverse, IsField}
use Rattle.ts_ring.specs.Expression.{Expression, var, num, plus, minus, times, value}
use Rattle.ts_ring.specs.Polynomial.{are_same}
use Rattle.ts_ring.proofs.Ring.{ring}

-- ---- the value of an operation is below p
abbrev is_operation : Expression → Bool
is_operation (var i) = false
is_operation (num n) = false
is_operation (plus a b) = true
is_operation (minus a b) = true
is_operation (times a b) = true

reduced : (p : ℕ) (values : List ℕ) (e : Expression) → is_operation e ≡ true
    → value p values e % p ≡ value p values e
reduced p values (var i) h = absurd cc
reduced p values (num i) h = absurd cc
reduced p values (plus a b) h = mod-mod (value p values a + value p values b) p
reduced p values (minus a b) h = mod-mod (value p values a + (p - value p values b % p)) p
reduced p values (times a b) h = mod-mod (value p values a * value p values b) p

-- two operations that are one polynomial are equal
pub ring_eq : (p : ℕ) → 0 < p → (values : List ℕ) (a b : Expression) → are_same a b ≡ true
    → is_operation a ≡ true → is_operation b ≡ true
    → value p values a ≡ value p values b
ring_eq p pos values a b h ra rb = sym (reduced p values a ra) ∙ ring p pos values a b h
    ∙ reduced p values b rb

-- ---- 0 and 1
pub positive : (p : ℕ) → IsField p → 0 < p
positive p f = let h = f.above in omega arith

pub mul-one : (p a : ℕ) → a < p → mul p a 1 ≡ a
mul-one p a h = ap (λ k. k % p) (mul-one-nat a) ∙ mod-eq_of_lt h

pub mul-one-one : (p : ℕ) → IsField p → mul p 1 1 ≡ 1
mul-one-one p f = let h = f.above in mod-eq_of_lt (let k : 1 < p = omega arith in k)

pub mul-zero-second : (p a : ℕ) → mul p a 0 ≡ 0
mul-zero-second p a = ap (λ k. k % p) (mul-zero a) ∙ zero-mod p

pub mul-zero-first : (p a : ℕ) → mul p 0 a ≡ 0
mul-zero-first p a = ap (λ k. k % p) (zero-mul a) ∙ zero-mod p

pub mul-turned : (p a b : ℕ) → mul p a b ≡ mul p b a
mul-turned p a b = ap (λ k. k % p) (mul_comm a b)

pub below : (p a : ℕ) → IsField p → a % p < p
below p a f = mod-lt a (positive p f)

pub nonzero : (p a : ℕ) → a < p → a ≢ 0 → a % p ≢ 0
nonzero p a h n e = n (sym (mod-eq_of_lt h) ∙ e)

-- ---- division
pub quotient-times : (p n d : ℕ) → IsField p → n < p → d % p ≢ 0
    → mul p (mul p n (inverse p d)) d ≡ n
quotient-times p n d f h nz =
    ring_eq p (positive p f) (n ∷ d ∷ inverse p d ∷ []) (times (times (var 0) (var 2)) (var 1))
    (times (var 0) (times (var 1) (var 2))) refl refl refl
    ∙ ap (mul p n) (f.inverts d nz) ∙ mul-one p n h

-- no product of two that are not 0 is 0
pub product-nonzero : (p a b : ℕ) → IsField p → a % p ≢ 0 → b % p ≢ 0 → mul p a b % p ≢ 0
product-nonzero p a b f na nb h =
    let e : mul p a b ≡ 0 = sym (mod-mod (a * b) p) ∙ h in
    let one : mul p (inverse p a) (mul p a b) ≡ mul p b (mul p a (inverse p a)) =
    ring_eq p (positive p f) (a ∷ b ∷ inverse p a ∷ []) (times (var 2) (times (var 0) (var 1)))
    (times (var 1) (times (var 0) (var 2))) refl refl refl in
    let two : mul p b (mul p a (inverse p a)) ≡ b % p = ap (mul p b) (f.inverts a na)
    ∙ ap (λ k. k % p) (mul-one-nat b) in
    nb (sym two ∙ sym one ∙ ap (mul p (inverse p a)) e ∙ mul-zero-second p (inverse p a))

pub cancel : (p a b c : ℕ) → IsField p → a < p → b < p → c % p ≢ 0 → mul p a c ≡ mul p b c → a ≡ b
cancel p a b c f ha hb nc e =
    let i = inverse p c in
    let away : (k : ℕ) → k < p → mul p (mul p k c) i ≡ k = λ k hk.
    ring_eq p (positive p f) (k ∷ c ∷ i ∷ []) (times (times (var 0) (var 1)) (var 2))
    (times (var 0) (times (var 1) (var 2))) refl refl refl
    ∙ ap (mul p k) (f.inverts c nc) ∙ mul-one p k hk in
    sym (away a ha) ∙ ap (λ k. mul p k i) e ∙ away b hb

pub difference-nonzero : (p a b : ℕ) → IsField p → a < p → b < p → a ≢ b → sub p b a % p ≢ 0
difference-nonzero p a b f ha hb ne h =
    let z : sub p b a ≡ 0 = sym (mod-mod (b + (p - a % p)) p) ∙ h in
    let e : add p (sub p b a) a % p ≡ b % p = ring p (positive p f) (a ∷ b ∷ [])
    (plus (minus (var 1) (var 0)) (var 0)) (var 1) refl in
    let g : add p (sub p b a) a ≡ a = ap (λ k. add p k a) z
    ∙ mod-eq_of_lt (let k : 0 + a < p = omega arith in k)
    ∙ (let l : 0 + a ≡ a = omega arith in l) in
    ne (sym (mod-eq_of_lt ha) ∙ ap (λ k. k % p) (sym g) ∙ e ∙ mod-eq_of_lt hb)
