use Rattle.ts_rsa.proofs.TestLemmas.{same_answer, pkcs1-accepts}
use Rattle.ts_rsa.proofs.pkcs1.is_pkcs1_signature.Goals as goal

pub returns-clause-answer : goal.returns-clause-answer
returns-clause-answer c =
    let a = c.args in
    same_answer _ _ c.is_valid.ensures
    (pkcs1-accepts a.bounds a.modulus.now a.exponent a.hash a.message.now.octets.now a.signature.now)
