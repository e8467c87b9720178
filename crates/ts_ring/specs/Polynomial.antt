-- The normal form of an expression: a polynomial with whole coefficients, in Horner's form.
use Rattle.std.specs.Prelude.{ℕ, zero, suc, ◌+◌, ◌*◌, Bool, true, false, cond, nat_eq}
use Rattle.ts_ring.specs.Expression.{Expression, var, num, plus, minus, times}

-- the difference of two numbers; or x * q + r, where x is variable 0 and r is a polynomial in the
-- variables from 1 on
pub data Polynomial : Type 0 where
  constant : ℕ → ℕ → Polynomial
  horner : Polynomial → Polynomial → Polynomial

-- (a - b) + p
abbrev pub plus_constant : ℕ → ℕ → Polynomial → Polynomial
plus_constant a b (constant c d) = constant (a + c) (b + d)
plus_constant a b (horner q r) = horner q (plus_constant a b r)

-- p + q
abbrev pub sum : Polynomial → Polynomial → Polynomial
sum (constant a b) p = plus_constant a b p
sum (horner q r) (constant a b) = horner q (plus_constant a b r)
sum (horner q r) (horner s t) = horner (sum q s) (sum r t)

-- 0 - p
abbrev pub negative : Polynomial → Polynomial
negative (constant a b) = constant b a
negative (horner q r) = horner (negative q) (negative r)

-- (a - b) * p
abbrev pub times_each : ℕ → ℕ → Polynomial → Polynomial
times_each a b (constant c d) = constant (a * c + b * d) (a * d + b * c)
times_each a b (horner q r) = horner (times_each a b q) (times_each a b r)

-- (a - b) * p, where a factor of 0 leaves no terms
abbrev pub times_constant : ℕ → ℕ → Polynomial → Polynomial
times_constant a b p =
    elim (nat_eq (a + b) 0) [ true ↦ constant 0 0 | false ↦ times_each a b p ]

-- x * q + r, where a q of 0 leaves no terms
abbrev pub with_rest : Polynomial → Polynomial → Polynomial
with_rest (constant a b) (constant c d) =
    elim (nat_eq (a + b) 0) [ true ↦ constant c d | false ↦ horner (constant a b) (constant c d) ]
with_rest (constant a b) (horner q r) = horner (constant a b) (horner q r)
with_rest (horner q s) r = horner (horner q s) r

-- p * r for a polynomial r in the variables from 1 on; f is the product with r
abbrev pub times_rest : (Polynomial → Polynomial) → Polynomial → Polynomial
times_rest f (constant a b) = with_rest (constant 0 0) (f (constant a b))
times_rest f (horner q r) = with_rest (times_rest f q) (f r)

-- p * q
abbrev pub product : Polynomial → Polynomial → Polynomial
product (constant a b) p = times_constant a b p
product (horner q r) p =
    sum (times_rest (product r) p) (with_rest (product q p) (constant 0 0))

-- a variable
abbrev pub variable : ℕ → Polynomial
variable zero = horner (constant 1 0) (constant 0 0)
variable (suc i) = horner (constant 0 0) (variable i)

-- the polynomial that an expression is
abbrev pub normal_form : Expression → Polynomial
normal_form (var i) = variable i
normal_form (num n) = constant n 0
normal_form (plus a b) = sum (normal_form a) (normal_form b)
normal_form (minus a b) = sum (normal_form a) (negative (normal_form b))
normal_form (times a b) = product (normal_form a) (normal_form b)

-- whether each coefficient is 0
abbrev pub is_zero : Polynomial → Bool
is_zero (constant a b) = nat_eq a b
is_zero (horner q r) = cond (is_zero q) (is_zero r) false

-- whether two expressions are one polynomial
abbrev pub are_same : Expression → Expression → Bool
are_same a b = is_zero (normal_form (minus a b))
