-- Signatures by Ed25519 in certificates: RFC 8410 3.
use Rattle.std.specs.Prelude.{◌≡◌, ℕ, Bool, true, ◌&&◌, List, [], ◌∷◌, is_none}
use Rattle.std.specs.Str.{bytes_eq}
use Rattle.ts_sig.specs.Key.{Key}
use Rattle.ts_eddsa.specs.Signature.{IsEd25519Signature}
use Rattle.ts_eddsa.specs.Tests.{is_ed25519_signature_of}

-- the content of OBJECT IDENTIFIER id-Ed25519, 1.3.101.112
abbrev pub ed25519 : List ℕ
ed25519 = 0x2b ∷ 0x65 ∷ 0x70 ∷ []

-- a key of Ed25519: it has no parameters (path validation makes none of NULL, RFC 5280 6.1.4 (e))
unfoldable pub is_for_ed25519 : Key → Bool
is_for_ed25519 key = bytes_eq key.algorithm ed25519 && is_none key.parameters

-- the signature is one by Ed25519 under the key
unfoldable pub ed25519_takes : Key → List ℕ → List ℕ → Bool
ed25519_takes key signed signature =
    is_for_ed25519 key && is_ed25519_signature_of key.octets signed signature

-- a signature of the signed octets themselves by Ed25519 (RFC 8032 5.1.7)
pub record IsByEd25519 (key : Key) (signed signature : List ℕ) : Type 0 where
  pub kind : is_for_ed25519 key ≡ true
  pub verifies : IsEd25519Signature key.octets signed signature
