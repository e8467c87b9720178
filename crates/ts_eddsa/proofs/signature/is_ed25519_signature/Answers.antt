use Rattle.ts_eddsa.proofs.Exact.{signature_test}
use Rattle.ts_eddsa.proofs.signature.is_ed25519_signature.Goals as goal

pub returns-clause-exactly : goal.returns-clause-exactly
returns-clause-exactly c =
    let a = c.args in
    rw c.accepts.ensures (signature_test a.public_key.now a.message.now a.signature.now)
