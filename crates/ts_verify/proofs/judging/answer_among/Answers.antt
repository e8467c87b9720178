-- The leaf and the pool are the certificates.
use Rattle.std.proofs.Common.{List, subst}
use Rattle.ts_cert.specs.declared.certificate.Cert.{Cert}
use Rattle.ts_search.specs.Search.{IsSearchAnswer}
use Rattle.ts_search.specs.View.{search_among}
use Rattle.ts_verify.proofs.Places.{front_is}
use Rattle.ts_verify.proofs.judging.answer_among.Goals as goal

pub returns : goal.returns
returns g c =
    let good = g.S.SignatureCheck.accepts c.args.check.now in
    subst (λ (cs : List Cert). IsSearchAnswer (search_among cs c.args.anchors.now c.args.inputs.now c.args.crls.now good) c.in_ok-answer.answer)
    (front_is c.args.certificates.now c.leaf-item.result c.in-len1-up.len_at_least c.leaf-item.is)
    c.in_ok-answer.ensures
