-- Points of a curve y^2 = x^3 + a x + b over the numbers modulo a prime p, and their sum
-- (SEC 1 2.2.1).
use Rattle.std.specs.Prelude.{ℕ, zero, suc, ◌/◌, ◌%◌, nat_eq, if◌then◌else◌, Option, Some, None}
use Rattle.std.specs.Prelude.{Bool, true, false}
use Rattle.ts_ring.specs.Modular.{add, sub, mul, inverse}

-- the coordinates of a point; None is the point at infinity
abbrev pub Point : Type 0
Point = Option (ℕ × ℕ)

-- the line of slope s through (x, y) and a point whose first coordinate is x' meets the curve in a
-- third point: that point, mirrored
abbrev pub third : ℕ → ℕ → ℕ → ℕ → ℕ → ℕ × ℕ
third p s x y x' =
    let x'' = sub p (sub p (mul p s s) x) x' in
    (x'', sub p (mul p s (sub p x x'')) y)

-- the slope of the tangent at (x, y)
abbrev pub tangent : ℕ → ℕ → ℕ → ℕ → ℕ
tangent p a x y = mul p (add p (mul p 3 (mul p x x)) a) (inverse p (mul p 2 y))

-- the slope of the chord through (x, y) and (x', y')
abbrev pub chord : ℕ → ℕ → ℕ → ℕ → ℕ → ℕ
chord p x y x' y' = mul p (sub p y' y) (inverse p (sub p x' x))

-- the sum of a point and itself
abbrev pub double : ℕ → ℕ → Point → Point
double p a None = None
double p a (Some t) =
    if nat_eq t.1 0 then None else Some (third p (tangent p a t.0 t.1) t.0 t.1 t.0)

-- the sum of two points
abbrev pub sum : ℕ → ℕ → Point → Point → Point
sum p a None q = q
sum p a (Some t) None = Some t
sum p a (Some t) (Some u) =
    if nat_eq t.0 u.0
    then (if nat_eq t.1 u.1 then double p a (Some t) else None)
    else Some (third p (chord p t.0 t.1 u.0 u.1) t.0 t.1 u.0)

-- a point, and g, q or the sum of both added, as two bits say
abbrev pub with_bits : ℕ → ℕ → Bool → Bool → Point → Point → Point → Point
with_bits p a false false g q t = t
with_bits p a false true g q t = sum p a t q
with_bits p a true false g q t = sum p a t g
with_bits p a true true g q t = sum p a t (sum p a g q)

-- The sum of u times g and v times q, for u and v below 2 ^ bits: their highest bits first, at each
-- place the double, and g added where the bit of u is 1, q where that of v is, and the sum of both
-- where both are.
unfoldable pub joint_multiple : ℕ → ℕ → ℕ → ℕ → ℕ → Point → Point → Point
joint_multiple p a zero u v g q = None
joint_multiple p a (suc bits) u v g q =
    with_bits p a (nat_eq (u % 2) 1) (nat_eq (v % 2) 1) g q
    (double p a (joint_multiple p a bits (u / 2) (v / 2) g q))
