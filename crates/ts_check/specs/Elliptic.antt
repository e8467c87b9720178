-- Signatures by ECDSA in certificates: RFC 5480 2.1.1, RFC 5758 3.2.
use Rattle.std.specs.Prelude.{◌≡◌, ℕ, Bool, ◌&&◌, List, [], ◌∷◌, Option, Some, None, if◌then◌else◌}
use Rattle.std.specs.Str.{bytes_eq}
use Rattle.ts_sig.specs.Key.{Key}
use Rattle.ts_digest.specs.declared.hash.Hash.{Hash}
use Rattle.ts_ecdsa.specs.declared.curve.Curve.{Curve}
use Rattle.ts_ecdsa.specs.declared.curve.Curve.TheVariants.{P256, P384, P521}
use Rattle.ts_ecdsa.specs.Curve.{curve_of}
use Rattle.ts_ecdsa.specs.Signature.{IsEcdsaSignature}
use Rattle.ts_ecdsa.specs.Tests.{is_ecdsa_signature_of}
use Rattle.ts_sig.specs.Algorithm.{short}
use Rattle.ts_check.specs.Options.{holds_of}

-- the content of OBJECT IDENTIFIER id-ecPublicKey, 1.2.840.10045.2.1
abbrev pub ec_public_key : List ℕ
ec_public_key = 0x2a ∷ 0x86 ∷ 0x48 ∷ 0xce ∷ 0x3d ∷ 2 ∷ 1 ∷ []

-- parameters that name a curve (RFC 5480 2.1.1.1): secp256r1, 1.2.840.10045.3.1.7; secp384r1,
-- 1.3.132.0.34; secp521r1, 1.3.132.0.35
abbrev pub curve_name : Curve → List ℕ
curve_name P256 = short 6 (0x2a ∷ 0x86 ∷ 0x48 ∷ 0xce ∷ 0x3d ∷ 3 ∷ 1 ∷ 7 ∷ [])
curve_name P384 = short 6 (0x2b ∷ 0x81 ∷ 4 ∷ 0 ∷ 0x22 ∷ [])
curve_name P521 = short 6 (0x2b ∷ 0x81 ∷ 4 ∷ 0 ∷ 0x23 ∷ [])

-- the key is one on this curve
unfoldable pub is_on : Curve → Key → Bool
is_on curve key =
    bytes_eq key.algorithm ec_public_key
    && holds_of key.parameters (λ p. bytes_eq p (curve_name curve))

-- the curve of a key
unfoldable pub curve_named : Key → Option Curve
curve_named key =
    if is_on P256 key then Some P256
    else (if is_on P384 key then Some P384 else (if is_on P521 key then Some P521 else None))

-- the signature is one by ECDSA under the key
unfoldable pub ecdsa_takes : Hash → Key → List ℕ → List ℕ → Bool
ecdsa_takes hash key signed signature = holds_of (curve_named key) (λ curve.
    is_ecdsa_signature_of (curve_of curve) hash key.octets signed signature)

-- a signature by ECDSA with this hash function on the curve that the key names (FIPS 186-5 6.4.2)
pub record IsByEcdsa (hash : Hash) (key : Key) (signed signature : List ℕ) : Type 0 where
  pub curve : Curve
  pub named : curve_named key ≡ Some curve
  pub verifies : IsEcdsaSignature (curve_of curve) hash key.octets signed signature
