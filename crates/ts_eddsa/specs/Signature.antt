-- Ed25519 signatures (RFC 8032 5.1.7).
use Rattle.std.specs.Prelude.{◌≡◌, ℕ, ◌%◌, ◌<◌, List, ◌++◌, length, take, drop, Some}
use Rattle.sha2.specs.Sha512.{sha512}
use Rattle.ts_prime.specs.Primes.{l25519}
use Rattle.ts_eddsa.specs.Octets.{little}
use Rattle.ts_eddsa.specs.Points.{Point, base, sum, multiple, AreEqual}
use Rattle.ts_eddsa.specs.Decode.{decode}

-- the octets of R: the first half
abbrev pub r_octets : List ℕ → List ℕ
r_octets signature = take 32 signature

-- the number S: the second half
abbrev pub s_number : List ℕ → ℕ
s_number signature = little (drop 32 signature)

-- step 2: the number k of SHA-512(R || A || M), modulo L (6, sha512_modq)
abbrev pub challenge : List ℕ → List ℕ → List ℕ → ℕ
challenge r key message = little (sha512 (r ++ key ++ message)) % l25519

-- the octets are a signature of the message under the key: both halves and the key decode, S is
-- below L, and [S]B = R + [k]A, the equation without the cofactor (step 3)
pub record IsEd25519Signature (key message signature : List ℕ) : Type 0 where
  pub long : length signature ≡ 64
  pub a : Point
  pub r : Point
  pub key_is : decode key ≡ Some a
  pub r_is : decode (r_octets signature) ≡ Some r
  pub s_below : s_number signature < l25519
  pub equation : AreEqual (multiple 256 (s_number signature) base)
      (sum r (multiple 256 (challenge (r_octets signature) key message) a))
