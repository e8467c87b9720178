-- The signatures that this project checks by itself.
use Rattle.std.specs.Prelude.{◌≡◌, ℕ, Bool, List, Some}
use Rattle.ts_sig.specs.Key.{Key}
use Rattle.ts_digest.specs.declared.hash.Hash.{Hash}
use Rattle.ts_sig.specs.declared.algorithm.SignatureAlgorithm.{SignatureAlgorithm}
use Rattle.ts_sig.specs.declared.algorithm.SignatureAlgorithm.TheVariants.{Pkcs1, Pss, Ecdsa}
use Rattle.ts_sig.specs.declared.algorithm.SignatureAlgorithm.TheVariants.{Ed25519}
use Rattle.ts_sig.specs.Algorithm.{algorithm_named}
use Rattle.ts_check.specs.Options.{holds_of}
use Rattle.ts_check.specs.Rsa.{pkcs1_takes, pss_takes, IsByPkcs1, IsByPss}
use Rattle.ts_check.specs.Elliptic.{ecdsa_takes, IsByEcdsa}
use Rattle.ts_check.specs.Edwards.{ed25519_takes, IsByEd25519}

-- a signature of the signed octets under the key by this algorithm
abbrev pub IsBy : SignatureAlgorithm → Key → List ℕ → List ℕ → Type 0
IsBy (Pkcs1 hash) key signed signature = IsByPkcs1 hash key signed signature
IsBy (Pss hash) key signed signature = IsByPss hash key signed signature
IsBy (Ecdsa hash) key signed signature = IsByEcdsa hash key signed signature
IsBy Ed25519 key signed signature = IsByEd25519 key signed signature

-- the identifier names an algorithm, and the signature is one by it
pub record IsNativeSignature (identifier : List ℕ) (key : Key)
    (signed signature : List ℕ) : Type 0 where
  pub algorithm : SignatureAlgorithm
  pub named : algorithm_named identifier ≡ Some algorithm
  pub is_by : IsBy algorithm key signed signature

-- IsBy as a test
abbrev pub takes : SignatureAlgorithm → Key → List ℕ → List ℕ → Bool
takes (Pkcs1 hash) key signed signature = pkcs1_takes hash key signed signature
takes (Pss hash) key signed signature = pss_takes hash key signed signature
takes (Ecdsa hash) key signed signature = ecdsa_takes hash key signed signature
takes Ed25519 key signed signature = ed25519_takes key signed signature

-- IsNativeSignature as a test
unfoldable pub native_accepts : List ℕ → Key → List ℕ → List ℕ → Bool
native_accepts identifier key signed signature =
    holds_of (algorithm_named identifier) (λ algorithm. takes algorithm key signed signature)
