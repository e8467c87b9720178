-- Points in extended homogeneous coordinates, their sum and their multiples (RFC 8032 5.1.4).
use Rattle.std.specs.Prelude.{◌≡◌, ℕ, zero, suc, ◌/◌, ◌%◌, nat_eq, if◌then◌else◌}
use Rattle.ts_eddsa.specs.Field.{plus, minus, times, d, base_x, base_y}

-- the point (x, y), where x = X / Z, y = Y / Z and x y = T / Z
pub record Point : Type 0 where
  pub x : ℕ
  pub y : ℕ
  pub z : ℕ
  pub t : ℕ

abbrev pub point_of : ℕ → ℕ → ℕ → ℕ → Point
point_of x y z t = record { x = x; y = y; z = z; t = t }

-- the point with these coordinates
abbrev pub affine : ℕ → ℕ → Point
affine x y = point_of x y 1 (times x y)

-- the neutral point (0, 1)
abbrev pub neutral : Point
neutral = point_of 0 1 1 0

-- the base point B (5.1)
abbrev pub base : Point
base = affine base_x base_y

-- both formulas end alike: X = E F, Y = G H, Z = F G, T = E H
abbrev pub completion : ℕ → ℕ → ℕ → ℕ → Point
completion e f g h = point_of (times e f) (times g h) (times f g) (times e h)

-- the sum: A = (Y1 - X1) (Y2 - X2), B = (Y1 + X1) (Y2 + X2), C = T1 2 d T2, D = Z1 2 Z2
unfoldable pub sum : Point → Point → Point
sum q r =
    let a = times (minus q.y q.x) (minus r.y r.x) in
    let b = times (plus q.y q.x) (plus r.y r.x) in
    let c = times q.t (times (plus d d) r.t) in
    let m = times q.z (plus r.z r.z) in
    completion (minus b a) (minus m c) (plus m c) (plus b a)

-- the double: A = X^2, B = Y^2, C = 2 Z^2, H = A + B, E = H - (X + Y)^2, G = A - B, F = C + G
unfoldable pub double : Point → Point
double q =
    let a = times q.x q.x in
    let b = times q.y q.y in
    let zz = times q.z q.z in
    let h = plus a b in
    let s = plus q.x q.y in
    let g = minus a b in
    completion (minus h (times s s)) (plus (plus zz zz) g) g h

-- k times a point, for k below 2 ^ bits: the highest bit of k first, at each bit the double, and
-- the point added where the bit is 1
unfoldable pub multiple : ℕ → ℕ → Point → Point
multiple zero k q = neutral
multiple (suc bits) k q =
    let high = double (multiple bits (k / 2) q) in
    if nat_eq (k % 2) 0 then high else sum high q

-- two points are equal: X1 Z2 = X2 Z1 and Y1 Z2 = Y2 Z1 (6, point_equal)
abbrev pub AreEqual : Point → Point → Type 0
AreEqual q r = (times q.x r.z ≡ times r.x q.z) × (times q.y r.z ≡ times r.y q.z)
