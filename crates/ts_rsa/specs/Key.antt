-- RFC 8017 3.1: an RSA public key, and the bounds within which one is taken.
use Rattle.std.specs.Prelude.{◌≡◌, ℕ, ◌-◌, ◌*◌, ◌%◌, ◌<◌, ◌≤◌, List, length, slice_index}
use Rattle.std.specs.Int.{w8, leading_zeros}
use Rattle.ts_rsa.specs.declared.key.KeyBounds.{KeyBounds}
use Rattle.ts_rsa.specs.Octets.{os2ip}

-- how many bits the number of some octets has, if the first octet is not 0
abbrev pub bit_length : List ℕ → ℕ
bit_length octets = 8 * length octets - leading_zeros w8 (slice_index octets 0)

-- the octets of an odd modulus, without leading zeros, and an odd exponent, both within bounds
pub record IsKey (bounds : KeyBounds) (modulus : List ℕ) (exponent : ℕ) : Type 0 where
  pub leading : 0 < slice_index modulus 0
  pub room : length modulus ≤ 1024
  pub min_bits : bounds.min_bits ≤ bit_length modulus
  pub max_bits : bit_length modulus ≤ bounds.max_bits
  pub odd : os2ip modulus % 2 ≡ 1
  pub min_exponent : bounds.min_exponent ≤ exponent
  pub max_exponent : exponent ≤ bounds.max_exponent
  pub odd_exponent : exponent % 2 ≡ 1
