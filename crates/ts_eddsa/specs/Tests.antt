-- The verification of a signature (RFC 8032 5.1.7) as a function that computes a truth value.
use Rattle.std.specs.Prelude.{ℕ, Bool, false, ◌&&◌, nat_eq, nat_lt, List, length, Option, Some}
use Rattle.std.specs.Prelude.{None}
use Rattle.ts_prime.specs.Primes.{l25519}
use Rattle.ts_eddsa.specs.Field.{times}
use Rattle.ts_eddsa.specs.Points.{Point, base, sum, multiple}
use Rattle.ts_eddsa.specs.Decode.{decode}
use Rattle.ts_eddsa.specs.Signature.{r_octets, s_number, challenge}

unfoldable pub are_equal : Point → Point → Bool
are_equal q r =
    nat_eq (times q.x r.z) (times r.x q.z) && nat_eq (times q.y r.z) (times r.y q.z)

-- the equation of two points that decoding found
abbrev pub holds : Option Point → Option Point → ℕ → ℕ → Bool
holds None r s k = false
holds (Some a) None s k = false
holds (Some a) (Some r) s k = are_equal (multiple 256 s base) (sum r (multiple 256 k a))

-- whether the octets are a signature of the message under the key
unfoldable pub is_ed25519_signature_of : List ℕ → List ℕ → List ℕ → Bool
is_ed25519_signature_of key message signature =
    nat_eq (length signature) 64 && (nat_lt (s_number signature) l25519
    && holds (decode key) (decode (r_octets signature)) (s_number signature)
    (challenge (r_octets signature) key message))
