-- What the test of signatures by ECDSA accepts.
use Rattle.std.proofs.Common.{◌≡◌, ℕ, true, List, Some, refl}
use Rattle.ts_der.specs.Octets.{AreOctets}
use Rattle.ts_sig.specs.Key.{Key}
use Rattle.ts_digest.specs.declared.hash.Hash.{Hash}
use Rattle.ts_ecdsa.specs.Curve.{curve_of}
use Rattle.ts_ecdsa.specs.Signature.{IsEcdsaSignature}
use Rattle.ts_ecdsa.specs.Tests.{is_ecdsa_signature_of}
use Rattle.ts_ecdsa.proofs.Exact.{signature_test}
use Rattle.ts_check.specs.Elliptic.{curve_named, ecdsa_takes, IsByEcdsa}
use Rattle.ts_check.proofs.Keys.{holds-found}

pub ecdsa-found : (hash : Hash) (key : Key) (signed signature : List ℕ) → AreOctets signature
    → ecdsa_takes hash key signed signature ≡ true → IsByEcdsa hash key signed signature
unfolding ecdsa_takes
ecdsa-found hash key signed signature o read =
    let c = holds-found (curve_named key) _ read in
    record {
      curve = c.0;
      named = c.1;
      verifies = (signature_test (curve_of c.0) hash key.octets signed signature o).0 c.2;
    }

pub ecdsa-again : (hash : Hash) (key : Key) (signed signature : List ℕ) → AreOctets signature
    → IsByEcdsa hash key signed signature → ecdsa_takes hash key signed signature ≡ true
unfolding ecdsa_takes
ecdsa-again hash key signed signature o s =
    rw s.named ((signature_test (curve_of s.curve) hash key.octets signed signature o).1 s.verifies)
