use Rattle.ts_rsa.proofs.TestLemmas.{pss-accepts}
use Rattle.ts_rsa.proofs.laws.pss_accepts_signatures.Goals as goal

pub returns : goal.returns
returns c = λ bounds modulus exponent hash message signature.
    pss-accepts bounds modulus exponent hash message signature
