-- The points of the curve, and the octets that encode one (RFC 8032 5.1, 5.1.2).
use Rattle.std.specs.Prelude.{◌≡◌, ℕ, ◌+◌, ◌*◌, ◌%◌, ◌^◌, ◌<◌, List}
use Rattle.std.specs.Int.{bytes_low_first}
use Rattle.ts_prime.specs.Primes.{p25519}
use Rattle.ts_eddsa.specs.Field.{plus, times, negative, d}

-- (x, y) is a point of the curve: -x^2 + y^2 = 1 + d x^2 y^2
pub record IsOnCurve (x y : ℕ) : Type 0 where
  pub x_below : x < p25519
  pub y_below : y < p25519
  pub equation : plus (negative (times x x)) (times y y)
      ≡ plus 1 (times d (times (times x x) (times y y)))

-- 32 octets, the lowest first: the lowest 255 bits are y, and the highest bit is the lowest of x
abbrev pub encode : ℕ → ℕ → List ℕ
encode x y = bytes_low_first 0 32 (y + 2 ^ 255 * (x % 2))
