use Rattle.std.proofs.Common.{◌∙◌, map, subst, ap}
use Rattle.ts_cert.specs.CertView.{cert_in}
use Rattle.ts_crl.specs.ListView.{crl_in}
use Rattle.ts_path.specs.View.{anchor_in}
use Rattle.ts_answer.specs.Asked.{lists_in}
use Rattle.ts_answer.proofs.Borrowed.{complete, deltas}
use Rattle.ts_search.specs.Search.{IsSearchAnswer, Search}
use Rattle.ts_answer.proofs.Asking.{front_is, same_search}
use Rattle.ts_answer.proofs.Places.{among_anchors}
use Rattle.ts_answer.proofs.judging.found_under.Goals as goal

pub returns-clause-answer : goal.returns-clause-answer
returns-clause-answer g c = λ tables terms octets same inputs anchors certificates.
    let good = g.S.SignatureCheck.accepts c.args.check.now in
    let are_lists = ap (map crl_in) c.deref.ensures.value ∙ c.in_ok-lists.ensures ∙ ap lists_in c.complete.ensures ∙ complete c.args.snapshot.now tables same in
    let are_deltas = ap (map crl_in) c.deref-2.ensures.value ∙ c.in_ok-deltas.ensures ∙ ap lists_in c.deltas.ensures ∙ deltas c.args.snapshot.now tables same in
    subst (λ (s : Search). IsSearchAnswer s c.in_ok-answer.answer)
    (same_search good tables terms (map crl_in c.deref.result.now) (map crl_in c.deref-2.result.now)
    are_lists are_deltas _ (map anchor_in c.deref-3.result.now) _ octets
    (inputs good (record { lists = c.deref.result; deltas = c.deref-2.result }))
    (ap (map anchor_in) c.deref-3.ensures.value ∙ c.in_ok-anchors.ensures ∙ anchors)
    (ap (map cert_in) (front_is c.args.certificates.now c.leaf-item.result
    c.in-len1-up.len_at_least c.leaf-item.is) ∙ certificates))
    c.in_ok-answer.ensures

pub returns-clause-among : goal.returns-clause-among
returns-clause-among g c =
    among_anchors c.leaf-item.result _ c.deref-3.result.now c.args.inputs.now
    (record { lists = c.deref.result; deltas = c.deref-2.result })
    (g.S.SignatureCheck.accepts c.args.check.now) c.args.certificates.now c.args.trusted.now
    c.in_ok-answer.answer
    (front_is c.args.certificates.now c.leaf-item.result c.in-len1-up.len_at_least c.leaf-item.is)
    c.requires.few c.requires.policies (ap (map anchor_in) c.deref-3.ensures.value ∙ c.in_ok-anchors.ensures)
    c.in_ok-answer.ensures
