use Rattle.std.proofs.Common.{◌≡◌, ◌∷◌, ◌++◌, ℕ, suc, ◌+◌, [], map, drop, get_or, sym, ap, ◌∙◌, arith, drop-cons, subst, None}
use Rattle.std.proofs.Math.ListN.{length-set}
use Rattle.ts_cert.specs.CertView.{cert_in}
use Rattle.ts_path.specs.View.{anchor_in, asked_under}
use Rattle.ts_path.specs.declared.anchor.Anchor.{Anchor}
use Rattle.ts_search.specs.inside.Dead.{AreDead}
use Rattle.ts_search.specs.Search.{question}
use Rattle.ts_search.specs.inside.Trial.{ValidOrNot}
use Rattle.ts_search.proofs.DeadFronts.{row-of, row-set}
use Rattle.ts_search.proofs.Trying.{all_more, over, one_longer}
use Rattle.ts_search.proofs.trial.Trial.first_anchor.Goals as goal

pub index_mut-under-requires : goal.index_mut-under-requires
index_mut-under-requires g c = omega (arith, c.loop-number.invariant.rows, c.loop-number-test.true)

pub policies_under-requires-clause-dead : goal.policies_under-requires-clause-dead
policies_under-requires-clause-dead g c =
    let trial = c.args.self.now in
    let asked = asked_under trial.inputs.now trial.crls.now (g.S.SignatureCheck.accepts trial.check.now) in
    let certificates = map cert_in trial.certificates.now in
    let A : Anchor → Type 0 = λ a. AreDead asked certificates (anchor_in a) (map (λ front. front.items) c.index_mut-under.result.now.items) in
    subst A c.index-self-number.is
    (row-of asked certificates trial.anchors.now c.loop-number.fronts.items c.loop-number.number c.index-self-number.result c.index_mut-under.result.now c.loop-number.invariant.dead
    (omega (arith, c.loop-number-test.true)) (omega (arith, c.loop-number.invariant.rows, c.loop-number-test.true)) c.index-self-number.is c.index_mut-under.ensures.value)

pub returns-in-Some-clause-rows : goal.returns-in-Some-clause-rows
returns-in-Some-clause-rows g c = length-set c.loop-number.fronts.items c.loop-number.number c.policies_under.new.fronts ∙ c.loop-number.invariant.rows

pub returns-in-Some-clause-dead : goal.returns-in-Some-clause-dead
returns-in-Some-clause-dead g c =
    let trial = c.args.self.now in
    let asked = asked_under trial.inputs.now trial.crls.now (g.S.SignatureCheck.accepts trial.check.now) in
    let certificates = map cert_in trial.certificates.now in
    let A : Anchor → Type 0 = λ a. AreDead asked certificates (anchor_in a) (map (λ front. front.items) c.policies_under.new.fronts.items) in
    row-set asked certificates trial.anchors.now c.loop-number.fronts.items c.loop-number.number
    c.index-self-number.result c.policies_under.new.fronts c.loop-number.invariant.dead
    c.index-self-number.is
    (omega (arith, c.loop-number-test.true)) (subst A (sym c.index-self-number.is) c.in_ok-policies.ensures.dead)

pub returns-clause-rows : goal.returns-clause-rows
returns-clause-rows g c = c.loop-number.invariant.rows

pub returns-clause-dead : goal.returns-clause-dead
returns-clause-dead g c = c.loop-number.invariant.dead

pub loop-number-preserved : goal.loop-number-preserved
loop-number-preserved g c =
    let trial = c.args.self.now in
    let i = c.loop-number.invariant.passed in
    let anchors = trial.anchors.now in
    let asked = asked_under trial.inputs.now trial.crls.now (g.S.SignatureCheck.accepts trial.check.now) in
    let certificates = map cert_in trial.certificates.now in
    let a = c.index-self-number.result in
    let chain = map cert_in c.args.chain.now in
    let A : Anchor → Type 0 = λ x. AreDead asked certificates (anchor_in x) (map (λ front. front.items) c.policies_under.new.fronts.items) in
    let N : Anchor → Type 0 = λ x. ValidOrNot (question asked chain (anchor_in x)) None in
    let none : N (get_or anchors c.loop-number.number a) =
    subst (ValidOrNot (question asked chain
    (anchor_in (get_or anchors c.loop-number.number a)))) c.in_default.is
    c.in_ok-policies.ensures.found in
    let next = drop-cons anchors c.loop-number.number a (omega (arith, c.loop-number-test.true)) ∙ ap (λ x. x ∷ drop (suc c.loop-number.number) anchors) (sym c.index-self-number.is) in record {
      passed = (
        i.0 ++ anchor_in a ∷ [],
        over (map anchor_in anchors) i.0 (map anchor_in (drop (suc c.loop-number.number) anchors))
            (anchor_in a) (i.1 ∙ ap (λ t. i.0 ++ map anchor_in t) next)
            ∙ ap (λ (k : ℕ). (i.0 ++ anchor_in a ∷ []) ++ map anchor_in (drop k anchors))
            (let e : suc c.loop-number.number ≡ c.loop-number.number + 1 = omega arith in e),
        one_longer i.0 (anchor_in a) c.loop-number.number i.2,
        all_more _ i.0 (anchor_in a) i.3 (subst N (sym c.index-self-number.is) none),
      );
      rows = length-set c.loop-number.fronts.items c.loop-number.number c.policies_under.new.fronts ∙ c.loop-number.invariant.rows;
      dead = row-set asked certificates anchors c.loop-number.fronts.items c.loop-number.number a c.policies_under.new.fronts c.loop-number.invariant.dead c.index-self-number.is
          (omega (arith, c.loop-number-test.true)) (subst A (sym c.index-self-number.is) c.in_ok-policies.ensures.dead);
    }
