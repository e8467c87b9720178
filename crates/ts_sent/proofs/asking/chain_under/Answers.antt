-- It is the question that is defined, where that is within its limits.
use Rattle.std.proofs.Common.{◌≡◌, ◌∙◌, ◌+◌, ℕ, List, Some, None, ap, cond, map, reverse, take}
use Rattle.std.specs.Global.{Vec}
use Rattle.ts_question.specs.Question.{StoreQuestion, is_within}
use Rattle.ts_question.specs.declared.question.Target.TheVariants.{Chain}
use Rattle.ts_question.specs.declared.terms.Terms.{Terms}
use Rattle.ts_sent.specs.Sent.{sent_in}
use Rattle.ts_sent.proofs.Asked.{made, turned}
use Rattle.ts_sent.proofs.asking.chain_under.Goals as goal

pub returns : goal.returns
returns c =
    let q = c.args.search.now in
    let above = c.args.above.now in
    let ask : Terms → List (List ℕ) → StoreQuestion = λ terms chain. record { terms = terms; target = Chain above.anchor chain } in
    let terms : c.in_ok-terms.terms ≡ record (q.terms) { k = Some c.args.k } =
    c.in_ok-terms.ensures ∙ ap (λ (t : Terms). record t { k = Some c.args.k }) c.terms.ensures in
    let chain : map (λ o. o.items) c.in_ok-chain.chain.items ≡ reverse (take (above.place + 1) (sent_in q.target)) =
    c.in_ok-chain.ensures ∙ (ap (λ (s : List (Vec ℕ)). reverse (map (λ o. o.items) s)) c.up_to.ensures
    ∙ turned c.sent_in.result.now (sent_in q.target) (above.place + 1) c.sent_in.ensures) in
    let same = ap (λ (t : Terms). ask t (map (λ o. o.items) c.in_ok-chain.chain.items)) terms
    ∙ ap (ask (record (q.terms) { k = Some c.args.k })) chain in
    c.ok.ensures.value ∙ (made _ c.chain.result c.chain.ensures
    ∙ ap (λ (a : StoreQuestion). cond (is_within a) (Some a) None) same)
