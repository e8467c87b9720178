-- What the search found, and else what is explained.
use Rattle.std.proofs.Common.{map, subst}
use Rattle.std.proofs.lemmas.Result.{IfOk-weaker}
use Rattle.ts_cert.specs.CertView.{cert_in}
use Rattle.ts_search.specs.Search.{IsSearchAnswer}
use Rattle.ts_search.specs.View.{search_among}
use Rattle.ts_search.specs.declared.answer.SearchAnswer.TheVariants.{NoPath, SearchLimit}
use Rattle.ts_verify.proofs.Judgements.{explained_is}
use Rattle.ts_verify.proofs.judging.judge.Goals as goal

pub returns-in-NoPath : goal.returns-in-NoPath
returns-in-NoPath g c =
    let s = search_among c.args.certificates.now c.args.anchors.now c.args.inputs.now c.args.crls.now (g.S.SignatureCheck.accepts c.args.check.now) in
    IfOk-weaker c.explain.result _ _
    (λ j h. explained_is s NoPath j.place (map cert_in j.chain.items) j.verdict
    (subst (IsSearchAnswer s) c.in-NoPath.is c.in_ok-answer.ensures) (λ anchor line. line) h)
    c.explain.ensures

pub returns-in-SearchLimit : goal.returns-in-SearchLimit
returns-in-SearchLimit g c =
    let s = search_among c.args.certificates.now c.args.anchors.now c.args.inputs.now c.args.crls.now (g.S.SignatureCheck.accepts c.args.check.now) in
    IfOk-weaker c.explain-in-SearchLimit.result _ _
    (λ j h. explained_is s SearchLimit j.place (map cert_in j.chain.items) j.verdict
    (subst (IsSearchAnswer s) c.in-SearchLimit.is c.in_ok-answer.ensures) (λ anchor line. line) h)
    c.explain-in-SearchLimit.ensures
