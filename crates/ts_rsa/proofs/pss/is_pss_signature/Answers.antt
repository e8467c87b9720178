use Rattle.ts_rsa.proofs.TestLemmas.{same_answer, pss-accepts}
use Rattle.ts_rsa.proofs.pss.is_pss_signature.Goals as goal

pub returns-clause-answer : goal.returns-clause-answer
returns-clause-answer c =
    let a = c.args in
    same_answer _ _ c.is_valid.ensures
    (pss-accepts a.bounds a.modulus.now a.exponent a.hash a.message.now.octets.now a.signature.now)
