-- Public keys: uncompressed points (SEC 1 2.3.4).
use Rattle.std.specs.Prelude.{◌≡◌, ℕ, ◌+◌, ◌*◌, List, length, slice_index, slice_range, Some}
use Rattle.ts_curve.specs.Octets.{number_of}
use Rattle.ts_curve.specs.Points.{Point}
use Rattle.ts_curve.specs.Curves.{Curve, size, IsOnCurve}

-- the coordinates: of the octets after the first, each half
abbrev pub key_x : Curve → List ℕ → ℕ
key_x c octets = number_of (slice_range octets 1 (size c + 1))

abbrev pub key_y : Curve → List ℕ → ℕ
key_y c octets = number_of (slice_range octets (size c + 1) (2 * size c + 1))

abbrev pub key_point : Curve → List ℕ → Point
key_point c octets = Some (key_x c octets, key_y c octets)

-- the octet 04 and the two coordinates of a point of the curve
pub record IsPublicKey (c : Curve) (octets : List ℕ) : Type 0 where
  pub long : length octets ≡ 2 * size c + 1
  pub uncompressed : slice_index octets 0 ≡ 4
  pub point : IsOnCurve c (key_x c octets) (key_y c octets)
