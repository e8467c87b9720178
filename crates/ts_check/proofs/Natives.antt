-- What the native check accepts.
use Rattle.std.proofs.Common.{◌≡◌, ℕ, true, List, Some, refl}
use Rattle.ts_der.specs.Octets.{AreOctets}
use Rattle.ts_sig.specs.Key.{Key}
use Rattle.ts_sig.specs.declared.algorithm.SignatureAlgorithm.{SignatureAlgorithm}
use Rattle.ts_sig.specs.declared.algorithm.SignatureAlgorithm.TheVariants.{Pkcs1, Pss, Ecdsa, Ed25519}
use Rattle.ts_sig.specs.Algorithm.{algorithm_named}
use Rattle.ts_check.specs.Native.{IsBy, IsNativeSignature, takes, native_accepts}
use Rattle.ts_check.proofs.Keys.{holds-found}
use Rattle.ts_check.proofs.ByEcdsa.{ecdsa-found, ecdsa-again}
use Rattle.ts_check.proofs.ByEd25519.{ed25519-found, ed25519-again}
use Rattle.ts_check.proofs.ByRsa.{pkcs1-found, pkcs1-again, pss-found, pss-again}

by-found : (algorithm : SignatureAlgorithm) (key : Key) (signed signature : List ℕ) → AreOctets key.octets → AreOctets signature
    → takes algorithm key signed signature ≡ true → IsBy algorithm key signed signature
by-found (Pkcs1 hash) key signed signature o o2 e = pkcs1-found hash key signed signature o e
by-found (Pss hash) key signed signature o o2 e = pss-found hash key signed signature o e
by-found (Ecdsa hash) key signed signature o o2 e = ecdsa-found hash key signed signature o2 e
by-found Ed25519 key signed signature o o2 e = ed25519-found key signed signature e

by-again : (algorithm : SignatureAlgorithm) (key : Key) (signed signature : List ℕ) → AreOctets signature
    → IsBy algorithm key signed signature → takes algorithm key signed signature ≡ true
by-again (Pkcs1 hash) key signed signature o2 s = pkcs1-again hash key signed signature s
by-again (Pss hash) key signed signature o2 s = pss-again hash key signed signature s
by-again (Ecdsa hash) key signed signature o2 s = ecdsa-again hash key signed signature o2 s
by-again Ed25519 key signed signature o2 s = ed25519-again key signed signature s

pub native-found : (identifier : List ℕ) (key : Key) (signed signature : List ℕ) → AreOctets key.octets → AreOctets signature
    → native_accepts identifier key signed signature ≡ true → IsNativeSignature identifier key signed signature
unfolding native_accepts
native-found identifier key signed signature o o2 read =
    let a = holds-found (algorithm_named identifier) _ read in
    record { algorithm = a.0; named = a.1; is_by = by-found a.0 key signed signature o o2 a.2 }

pub native-again : (identifier : List ℕ) (key : Key) (signed signature : List ℕ) → AreOctets signature
    → IsNativeSignature identifier key signed signature → native_accepts identifier key signed signature ≡ true
unfolding native_accepts
native-again identifier key signed signature o2 s = rw s.named (by-again s.algorithm key signed signature o2 s.is_by)
