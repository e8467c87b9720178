use Rattle.std.proofs.Common.{◌≡◌, ◌∷◌, ◌++◌, ◌+◌, ℕ, suc, List, [], map, drop, sym, ap, subst, ◌∙◌, arith, drop-cons}
use Rattle.ts_cert.specs.CertView.{cert_in}
use Rattle.ts_cert.specs.Certificate.{Certificate}
use Rattle.ts_path.specs.View.{anchor_in, asked_under}
use Rattle.ts_search.specs.Search.{NoneUnder, certificates_at}
use Rattle.ts_search.specs.inside.Trial.{IsTriable, FirstOrNone}
use Rattle.ts_search.proofs.Trying.{all_more, over, all_at, few_of}
use Rattle.ts_search.proofs.trial.Trial.first_valid.Goals as goal

pub first_anchor-requires-clause-some : goal.first_anchor-requires-clause-some
first_anchor-requires-clause-some g c =
    let certificates = map cert_in c.args.self.now.certificates.now in
    let chain = c.chain-item.result in
    let t = all_at (IsTriable certificates) (λ c. c.items) c.args.chains.now c.loop-chain.chain-index chain c.requires.triable (omega (arith, c.loop-chain-test.true)) c.chain-item.is in
    (few_of certificates chain.items c.in_ok-under.under.items c.deref-in-loop-chain-2.result.now
    c.deref-in-loop-chain-2.ensures.value
    (c.in_ok-under.ensures ∙ ap (certificates_at certificates) c.deref.ensures.value) t).0

pub first_anchor-requires-clause-few : goal.first_anchor-requires-clause-few
first_anchor-requires-clause-few g c =
    let certificates = map cert_in c.args.self.now.certificates.now in
    let chain = c.chain-item.result in
    let t = all_at (IsTriable certificates) (λ c. c.items) c.args.chains.now c.loop-chain.chain-index chain c.requires.triable (omega (arith, c.loop-chain-test.true)) c.chain-item.is in
    (few_of certificates chain.items c.in_ok-under.under.items c.deref-in-loop-chain-2.result.now
    c.deref-in-loop-chain-2.ensures.value
    (c.in_ok-under.ensures ∙ ap (certificates_at certificates) c.deref.ensures.value) t).1

pub loop-chain-preserved : goal.loop-chain-preserved
loop-chain-preserved g c =
    let i = c.loop-chain.invariant.passed in
    let chains = c.args.chains.now in
    let chain = c.chain-item.result in
    let certificates = map cert_in c.args.self.now.certificates.now in
    let asked = asked_under c.args.self.now.inputs.now c.args.self.now.crls.now (g.S.SignatureCheck.accepts c.args.self.now.check.now) in
    let anchors = map anchor_in c.args.self.now.anchors.now in
    let P : List Certificate → Type 0 = λ cs. NoneUnder asked cs anchors in
    let next = drop-cons chains c.loop-chain.chain-index chain (omega (arith, c.loop-chain-test.true)) ∙ ap (λ x. x ∷ drop (suc c.loop-chain.chain-index) chains) (sym c.chain-item.is) in
    let under = ap (map cert_in) c.deref-in-loop-chain-2.ensures.value ∙ (c.in_ok-under.ensures ∙ ap (certificates_at certificates) c.deref.ensures.value) in
    let none : NoneUnder asked (map cert_in c.deref-in-loop-chain-2.result.now) anchors =
    subst (FirstOrNone asked (map cert_in c.deref-in-loop-chain-2.result.now) anchors)
    c.in_default.is c.in_ok-success.ensures.found in record {
      passed = (
        i.0 ++ chain.items ∷ [],
        over (map (λ c. c.items) chains) i.0
            (map (λ c. c.items) (drop (suc c.loop-chain.chain-index) chains)) chain.items
            (i.1 ∙ ap (λ t. i.0 ++ map (λ c. c.items) t) next)
            ∙ ap (λ (k : ℕ). (i.0 ++ chain.items ∷ []) ++ map (λ c. c.items) (drop k chains))
            (let e : suc c.loop-chain.chain-index ≡ c.loop-chain.chain-index + 1 = omega arith in
            e),
        all_more _ i.0 chain.items i.2 (subst P under none),
      );
      rows = c.in_ok-success.ensures.rows;
      dead = c.in_ok-success.ensures.dead;
    }
