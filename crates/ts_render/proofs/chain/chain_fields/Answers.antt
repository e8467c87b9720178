-- One more certificate, or no more.
use Rattle.std.proofs.Common.{rules, ◌≡◌, ◌+◌, subst, List, Option, ℕ}
use Rattle.std.proofs.lemmas.List.{drop_all}
use Rattle.ts_render.specs.Chain.{AreShown, IsShown, certificates_in, is_place}
use Rattle.ts_render.proofs.Chains.{next, over, shown_all, shown_more}
use Rattle.ts_render.proofs.chain.chain_fields.Goals as goal

pub loop-place-preserved : goal.loop-place-preserved
loop-place-preserved c rest are =
    let cs = certificates_in c.args.question.now in
    let xs = c.certificates_in-octets-items.result.now in
    let p = c.loop-place.place in
    let failing = c.failing_in-failing.result in
    let f = c.in_ok-certificate_fields.field-0 in
    let left = next xs cs p c.octets-item.result c.certificates_in-octets-items.ensures c.loop-place-test.true c.octets-item.is in
    let fails : f.fails ≡ is_place (p + 1) failing = search rules in
    rw c.in_ok-push.ensures.items
    (shown_more c.loop-place.all.items rest f c.octets-item.result.items _ _ (p + 1) failing
    cs left (subst (λ (o : List ℕ). IsShown o f) c.deref.ensures.value c.in_ok-certificate_fields.ensures.0) fails c.loop-place.invariant are)

pub returns : goal.returns
returns c =
    let cs = certificates_in c.args.question.now in
    let xs = c.certificates_in-octets-items.result.now in
    let p = c.loop-place.place in
    let none = over xs cs p c.certificates_in-octets-items.ensures (drop_all p xs c.loop-place-test.false) in
    subst (λ (failing : Option ℕ). AreShown c.loop-place.all.items 1 cs failing) c.failing_in-failing.ensures
    (shown_all c.loop-place.all.items _ (p + 1) c.failing_in-failing.result cs none c.loop-place.invariant)
