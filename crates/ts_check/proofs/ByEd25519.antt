-- What the test of signatures by Ed25519 accepts.
use Rattle.std.proofs.Common.{◌≡◌, ℕ, true, List, refl}
use Rattle.std.proofs.lemmas.Bool.{and_parts}
use Rattle.ts_sig.specs.Key.{Key}
use Rattle.ts_eddsa.specs.Signature.{IsEd25519Signature}
use Rattle.ts_eddsa.specs.Tests.{is_ed25519_signature_of}
use Rattle.ts_eddsa.proofs.Exact.{signature_test}
use Rattle.ts_check.specs.Edwards.{is_for_ed25519, ed25519_takes, IsByEd25519}

pub ed25519-found : (key : Key) (signed signature : List ℕ)
    → ed25519_takes key signed signature ≡ true → IsByEd25519 key signed signature
unfolding ed25519_takes
ed25519-found key signed signature read =
    let p = and_parts (is_for_ed25519 key) _ read in
    record {
      kind = p.0;
      verifies = (signature_test key.octets signed signature).0 p.1;
    }

pub ed25519-again : (key : Key) (signed signature : List ℕ)
    → IsByEd25519 key signed signature → ed25519_takes key signed signature ≡ true
unfolding ed25519_takes
ed25519-again key signed signature s =
    rw s.kind ((signature_test key.octets signed signature).1 s.verifies)
