-- ECDSA signatures (FIPS 186-5 6.4.2).
use Rattle.std.specs.Prelude.{ℕ, List, take}
use Rattle.ts_digest.specs.declared.hash.Hash.{Hash}
use Rattle.ts_digest.specs.Hash.{hash_of}
use Rattle.ts_curve.specs.Octets.{number_of}
use Rattle.ts_curve.specs.Curves.{Curve, size}
use Rattle.ts_ecdsa.specs.Number.{IsNumberSignature}
use Rattle.ts_ecdsa.specs.Key.{key_point, IsPublicKey}
use Rattle.ts_ecdsa.specs.Value.{IsSignatureValue}

-- the number e: the leftmost octets of the hash, as many as the order has, or all of a shorter hash
-- (6.4.1 step 2: the leftmost bits, as many as the order has; those are octets, since the orders of
-- P-256 and P-384 have whole octets of bits, and no hash has more bits than that of P-521)
abbrev pub hash_number : Curve → Hash → List ℕ → ℕ
hash_number c hash message = number_of (take (size c) (hash_of hash message))

-- the octets are a signature of the message under the key
pub record IsEcdsaSignature (c : Curve) (hash : Hash) (key message octets : List ℕ) : Type 0 where
  pub key_is : IsPublicKey c key
  pub r : ℕ
  pub s : ℕ
  pub value : IsSignatureValue octets r s
  pub number : IsNumberSignature c (key_point c key) (hash_number c hash message) r s
