-- The curves P-256, P-384 and P-521 (SP 800-186 3.2.1), by their domain parameters (SEC 1 3.1.1).
use Rattle.std.specs.Prelude.{◌≡◌, ℕ, ◌+◌, ◌-◌, ◌/◌, ◌<◌, Bool, ◌&&◌, nat_lt, nat_eq, Some}
use Rattle.ts_ring.specs.Modular.{add, mul}
use Rattle.ts_prime.specs.Primes.{p256, n256, p384, n384, p521, n521}
use Rattle.ts_curve.specs.Points.{Point, joint_multiple}

-- the curve y^2 = x^3 + a x + b over the numbers modulo a prime, its base point, the order of that
-- point, and how many bits the order has
pub record Curve : Type 0 where
  pub prime : ℕ
  pub a : ℕ
  pub b : ℕ
  pub base_x : ℕ
  pub base_y : ℕ
  pub order : ℕ
  pub bits : ℕ

-- P-256 (SP 800-186 3.2.1.3)
abbrev pub curve_p256 : Curve
curve_p256 = record {
  prime = p256;
  a = p256 - 3;
  b = 0x5ac635d8aa3a93e7b3ebbd55769886bc651d06b0cc53b0f63bce3c3e27d2604b;
  base_x = 0x6b17d1f2e12c4247f8bce6e563a440f277037d812deb33a0f4a13945d898c296;
  base_y = 0x4fe342e2fe1a7f9b8ee7eb4a7c0f9e162bce33576b315ececbb6406837bf51f5;
  order = n256;
  bits = 256;
}

-- P-384 (SP 800-186 3.2.1.4)
abbrev pub curve_p384 : Curve
curve_p384 = record {
  prime = p384;
  a = p384 - 3;
  b =
      0xb3312fa7e23ee7e4988e056be3f82d19181d9c6efe8141120314088f5013875ac656398d8a2ed19d2a85c8edd3ec2aef;
  base_x =
      0xaa87ca22be8b05378eb1c71ef320ad746e1d3b628ba79b9859f741e082542a385502f25dbf55296c3a545e3872760ab7;
  base_y =
      0x3617de4a96262c6f5d9e98bf9292dc29f8f41dbd289a147ce9da3113b5f0b8c00a60b1ce1d7e819d7a431d7c90ea0e5f;
  order = n384;
  bits = 384;
}

-- P-521 (SP 800-186 3.2.1.5)
abbrev pub curve_p521 : Curve
curve_p521 = record {
  prime = p521;
  a = p521 - 3;
  b =
      0x51953eb9618e1c9a1f929a21a0b68540eea2da725b99b315f3b8b489918ef109e156193951ec7e937b1652c0bd3bb1bf073573df883d2c34f1ef451fd46b503f00;
  base_x =
      0xc6858e06b70404e9cd9e3ecb662395b4429c648139053fb521f828af606b4d3dbaa14b5e77efe75928fe1dc127a2ffa8de3348b3c1856a429bf97e7e31c2e5bd66;
  base_y =
      0x11839296a789a3bc0045c8a5fb42c7d1bd998f54449579b446817afbd17273e662c97ee72995ef42640c550b9013fad0761353c7086a272c24088be94769fd16650;
  order = n521;
  bits = 521;
}

-- how many octets a coordinate has (SEC 1 2.3.5): the prime has as many bits as the order
abbrev pub size : Curve → ℕ
size c = (c.bits + 7) / 8

-- the base point G
abbrev pub base : Curve → Point
base c = Some (c.base_x, c.base_y)

-- the sum of u times the base point and v times another, for u and v below 2 ^ bits
abbrev pub combination : Curve → ℕ → ℕ → Point → Point
combination c u v q = joint_multiple c.prime c.a c.bits u v (base c) q

-- x^3 + a x + b
abbrev pub right_side : Curve → ℕ → ℕ
right_side c x = add c.prime (add c.prime (mul c.prime x (mul c.prime x x)) (mul c.prime c.a x)) c.b

-- (x, y) is a point of the curve (SEC 1 3.2.2.1)
pub record IsOnCurve (c : Curve) (x y : ℕ) : Type 0 where
  pub first : x < c.prime
  pub second : y < c.prime
  pub equation : mul c.prime y y ≡ right_side c x

-- the same as a test
abbrev pub is_on_curve : Curve → ℕ → ℕ → Bool
is_on_curve c x y =
    nat_lt x c.prime && (nat_lt y c.prime && nat_eq (mul c.prime y y) (right_side c x))
