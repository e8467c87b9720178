use Rattle.ts_rsa.proofs.TestLemmas.{pkcs1-accepts}
use Rattle.ts_rsa.proofs.laws.pkcs1_accepts_signatures.Goals as goal

pub returns : goal.returns
returns c = λ bounds modulus exponent hash message signature.
    pkcs1-accepts bounds modulus exponent hash message signature
