use Rattle.std.proofs.Common.{◌∙◌, map, subst, ap}
use Rattle.ts_cert.specs.CertView.{cert_in}
use Rattle.ts_crl.specs.ListView.{crl_in}
use Rattle.ts_path.specs.View.{anchor_in}
use Rattle.ts_answer.specs.Asked.{lists_in}
use Rattle.ts_answer.proofs.Borrowed.{complete, deltas}
use Rattle.ts_path.specs.Chain.{ChainQuestion}
use Rattle.ts_path.specs.Verdict.{IsVerdict}
use Rattle.ts_answer.proofs.Asking.{same_question}
use Rattle.ts_answer.proofs.Places.{verdict_sayable}
use Rattle.ts_answer.proofs.judging.verdict_under.Goals as goal

pub returns-clause-verdict : goal.returns-clause-verdict
returns-clause-verdict g c = λ tables terms stored octets same inputs anchor chain.
    let good = g.S.SignatureCheck.accepts c.args.check.now in
    let are_lists = ap (map crl_in) c.deref.ensures.value ∙ c.in_ok-lists.ensures ∙ ap lists_in c.complete.ensures ∙ complete c.args.snapshot.now tables same in
    let are_deltas = ap (map crl_in) c.deref-2.ensures.value ∙ c.in_ok-deltas.ensures ∙ ap lists_in c.deltas.ensures ∙ deltas c.args.snapshot.now tables same in
    subst (λ (q : ChainQuestion). IsVerdict q c.in_ok-verdict.verdict)
    (same_question good tables terms (map crl_in c.deref.result.now)
    (map crl_in c.deref-2.result.now) are_lists are_deltas _ (anchor_in c.args.anchor.now)
    stored (map cert_in c.args.chain.now) octets
    (inputs good (record { lists = c.deref.result; deltas = c.deref-2.result })
    (anchor_in c.args.anchor.now)) anchor chain)
    c.in_ok-verdict.ensures

pub returns-clause-sayable : goal.returns-clause-sayable
returns-clause-sayable g c =
    verdict_sayable c.args.anchor.now c.args.chain.now c.args.inputs.now
    (record { lists = c.deref.result; deltas = c.deref-2.result })
    (g.S.SignatureCheck.accepts c.args.check.now) c.in_ok-verdict.verdict
    c.requires.some c.requires.few c.requires.policies c.in_ok-verdict.ensures
