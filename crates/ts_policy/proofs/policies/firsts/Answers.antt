use Rattle.std.proofs.Common.{arith, ◌∙◌, ◌++◌, ap, map, filter, [], take, ◌-◌, ◌↔◌, subst}
use Rattle.ts_policy.specs.Labels.{Label, In, has}
use Rattle.ts_policy.specs.inside.Layers.{firsts, newest, above_alive, is_top}
use Rattle.ts_policy.specs.inside.Links.{link_in}
use Rattle.ts_policy.proofs.Views.{map_append}
use Rattle.ts_policy.proofs.KeptLaw.{firsts_turn, tops_view, above_view}
use Rattle.ts_policy.proofs.policies.firsts.Goals as goal

pub loop-i-preserved : goal.loop-i-preserved
loop-i-preserved c =
    let layer = c.index-layers-i.result in
    let alive = c.loop-i.alive in
    let found = map (λ x. x.content.now) c.loop-i.found.items in
    let more = c.in_ok-more.more.items in
    let ups = c.in_ok-above_alive.field-0.items in
    let es = tops_view alive layer.items more (c.in_ok-more.ensures ∙ ap (λ xs. map (λ x. x.label) (filter (λ x. is_top alive (link_in x)) xs)) c.deref.ensures.value) in
    let us = above_view alive layer.items ups (c.in_ok-above_alive.ensures ∙ ap (λ xs. map (λ x. x.above) (filter (λ x. has alive x.label.content.now) xs)) c.deref-in-loop-i-2.ensures.value) in
    let alike : (p : Label) → In p c.of-alive.result ↔ In p (above_alive (map link_in layer.items) alive) = λ p. subst (λ xs. In p c.of-alive.result ↔ In p xs) us (c.of-alive.ensures p) in
    let turn = firsts_turn (λ v. map link_in v.items) c.args.layers.now c.loop-i.i layer alive
    c.of-alive.result (map (λ x. x.content.now) more) found
    (firsts (newest (λ v. map link_in v.items) [] c.args.layers.now) c.args.ends)
    (omega (arith, c.loop-i-test.true)) c.loop-i.invariant.0 c.index-layers-i.is es alike
    c.loop-i.invariant.1 in
    let grown = ap (map (λ x. x.content.now))
    (c.in_ok-extend_from_slice.ensures.items
    ∙ ap (λ ys. c.loop-i.found.items ++ ys) c.deref-in-loop-i.ensures.value)
    ∙ map_append (λ x. x.content.now) c.loop-i.found.items more in
    (omega (arith, c.loop-i.invariant.0), ap (λ xs. xs ++ firsts (newest (λ v. map link_in v.items) [] (take (c.loop-i.i - 1) c.args.layers.now)) c.of-alive.result) grown ∙ turn)
