-- Signatures of a number (FIPS 186-5 6.4.2, steps 1 and 4 to 9).
use Rattle.std.specs.Prelude.{◌≡◌, ℕ, ◌%◌, ◌<◌, Some, None}
use Rattle.ts_ring.specs.Modular.{mul, inverse}
use Rattle.ts_curve.specs.Points.{Point}
use Rattle.ts_curve.specs.Curves.{Curve, combination}

-- a point is not infinity, and its first coordinate modulo n is r
abbrev pub FirstIs : ℕ → Point → ℕ → Type 0
FirstIs n None r = ⊥
FirstIs n (Some t) r = t.0 % n ≡ r

-- the point R: with w the inverse of s, the sum of e w times the base point and r w times the key
abbrev pub checked_point : Curve → Point → ℕ → ℕ → ℕ → Point
checked_point c q e r s =
    let w = inverse c.order s in
    combination c (mul c.order e w) (mul c.order r w) q

-- (r, s) is a signature of e under the key q: both lie in 1 to n - 1, and r is the first coordinate
-- of R modulo n
pub record IsNumberSignature (c : Curve) (q : Point) (e r s : ℕ) : Type 0 where
  pub r_positive : 0 < r
  pub r_below : r < c.order
  pub s_positive : 0 < s
  pub s_below : s < c.order
  pub first : FirstIs c.order (checked_point c q e r s) r
