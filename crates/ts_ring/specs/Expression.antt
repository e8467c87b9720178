-- Expressions over the numbers modulo p.
use Rattle.std.specs.Prelude.{ℕ, zero, suc, List, [], ◌∷◌}
use Rattle.ts_ring.specs.Modular.{add, sub, mul}

-- a variable by its place, a number, or one of the three operations
pub data Expression : Type 0 where
  var : ℕ → Expression
  num : ℕ → Expression
  plus : Expression → Expression → Expression
  minus : Expression → Expression → Expression
  times : Expression → Expression → Expression

-- the value of variable 0, or 0 where there is none
abbrev pub first : List ℕ → ℕ
first [] = 0
first (x ∷ xs) = x

-- the values of the variables from 1 on
abbrev pub rest : List ℕ → List ℕ
rest [] = []
rest (x ∷ xs) = xs

-- the value of a variable
abbrev pub nth : ℕ → List ℕ → ℕ
nth zero values = first values
nth (suc i) values = nth i (rest values)

-- the value of an expression, each operation modulo p
abbrev pub value : ℕ → List ℕ → Expression → ℕ
value p values (var i) = nth i values
value p values (num n) = n
value p values (plus a b) = add p (value p values a) (value p values b)
value p values (minus a b) = sub p (value p values a) (value p values b)
value p values (times a b) = mul p (value p values a) (value p values b)

abbrev pub square : Expression → Expression
square e = times e e

abbrev pub cube : Expression → Expression
cube e = times e (times e e)

abbrev pub twice : Expression → Expression
twice e = plus e e
