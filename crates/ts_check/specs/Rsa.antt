-- Signatures by RSA in certificates: RFC 4055 1.2, 3 and 5.
use Rattle.std.specs.Prelude.{◌≡◌, ◌⊎◌, ℕ, Bool, ◌&&◌, ◌||◌, List, [], ◌∷◌, length, Option, Some}
use Rattle.std.specs.Prelude.{None}
use Rattle.std.specs.Prelude.{true, is_none}
use Rattle.std.specs.Str.{bytes_eq}
use Rattle.ts_sig.specs.Key.{Key}
use Rattle.ts_digest.specs.declared.hash.Hash.{Hash}
use Rattle.ts_rsa.specs.declared.key.KeyBounds.{KeyBounds}
use Rattle.ts_rsa.specs.Octets.{os2ip}
use Rattle.ts_rsa.specs.Key.{bit_length, IsKey}
use Rattle.ts_rsa.specs.Pkcs1.{IsPkcs1Signature}
use Rattle.ts_rsa.specs.Pss.{IsPssSignature}
use Rattle.ts_rsa.specs.Tests.{pkcs1_accepts, pss_accepts}
use Rattle.ts_check.specs.Options.{holds_of, holds_if}
use Rattle.ts_check.specs.PublicKey.{Public, public_of, IsRsaKey}

-- moduli of 2,048 to 8,192 bits, exponents from 3 to 2^33 - 1
abbrev pub standard : KeyBounds
standard = record {
  min_bits = 2048;
  max_bits = 8192;
  min_exponent = 3;
  max_exponent = 0x1ffffffff;
}

-- the content of OBJECT IDENTIFIER rsaEncryption, 1.2.840.113549.1.1.1
abbrev pub rsa_encryption : List ℕ
rsa_encryption = 0x2a ∷ 0x86 ∷ 0x48 ∷ 0x86 ∷ 0xf7 ∷ 0x0d ∷ 1 ∷ 1 ∷ 1 ∷ []

-- the content of OBJECT IDENTIFIER id-RSASSA-PSS, 1.2.840.113549.1.1.10
abbrev pub rsassa_pss : List ℕ
rsassa_pss = 0x2a ∷ 0x86 ∷ 0x48 ∷ 0x86 ∷ 0xf7 ∷ 0x0d ∷ 1 ∷ 1 ∷ 10 ∷ []

-- a key for every signature by RSA: rsaEncryption with parameters NULL (1.2), of which path
-- validation makes none (RFC 5280 6.1.2 (h), 6.1.4 (e))
unfoldable pub is_for_rsa : Key → Bool
is_for_rsa key =
    bytes_eq key.algorithm rsa_encryption && holds_if key.parameters (λ p. bytes_eq p (5 ∷ 0 ∷ []))

-- a key for RSASSA-PSS alone, with every hash function: id-RSASSA-PSS without parameters (1.2)
unfoldable pub is_for_pss : Key → Bool
is_for_pss key = bytes_eq key.algorithm rsassa_pss && is_none key.parameters

-- the test holds of the key of RSA that octets are
unfoldable pub holds_of_public : List ℕ → (Public → Bool) → Bool
holds_of_public octets test = holds_of (public_of octets) test

-- the signature is one by RSASSA-PKCS1-v1_5 under the key
unfoldable pub pkcs1_takes : Hash → Key → List ℕ → List ℕ → Bool
pkcs1_takes hash key signed signature =
    is_for_rsa key && holds_of_public key.octets (λ public.
    pkcs1_accepts standard public.modulus public.exponent hash signed signature)

-- the signature is one by RSASSA-PSS under the key
unfoldable pub pss_takes : Hash → Key → List ℕ → List ℕ → Bool
pss_takes hash key signed signature =
    (is_for_rsa key || is_for_pss key) && holds_of_public key.octets (λ public.
    pss_accepts standard public.modulus public.exponent hash signed signature)

-- a key of RSA within the bounds
pub record IsRsaPublicKey (octets : List ℕ) : Type 0 where
  pub modulus : List ℕ
  pub exponent : ℕ
  pub encoded : IsRsaKey octets modulus exponent
  pub valid : IsKey standard modulus exponent

-- a signature by RSASSA-PKCS1-v1_5 with this hash function (RFC 8017 8.2.2)
pub record IsByPkcs1 (hash : Hash) (key : Key) (signed signature : List ℕ) : Type 0 where
  pub kind : is_for_rsa key ≡ true
  pub public : IsRsaPublicKey key.octets
  pub opens : IsPkcs1Signature (os2ip public.modulus) public.exponent (length public.modulus) hash
      signed signature

-- a signature by RSASSA-PSS with this hash function (RFC 8017 8.1.2)
pub record IsByPss (hash : Hash) (key : Key) (signed signature : List ℕ) : Type 0 where
  pub kind : (is_for_rsa key ≡ true) ⊎ (is_for_pss key ≡ true)
  pub public : IsRsaPublicKey key.octets
  pub opens : IsPssSignature (os2ip public.modulus) public.exponent (length public.modulus)
      (bit_length public.modulus) hash signed signature
