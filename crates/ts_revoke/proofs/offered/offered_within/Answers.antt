use Rattle.std.proofs.Common.{rules, ◌≡◌, List, [], ◌∷◌, sym, ap, ◌∙◌}
use Rattle.ts_der.specs.Element.{Place, inside}
use Rattle.ts_der.specs.View.{now}
use Rattle.ts_shape.specs.Items.{items_at}
use Rattle.ts_ext.specs.declared.reason_set.ReasonSet.{ReasonSet}
use Rattle.ts_ext.specs.NameViews.{point_in}
use Rattle.ts_ext.specs.Points.{Point, point_item}
use Rattle.ts_revoke.specs.inside.ByList.{offered_by, offered}
use Rattle.ts_revoke.specs.Reasons.{union}
use Rattle.ts_revoke.proofs.Sets.{none-union, union-none, union-assoc}
use Rattle.ts_revoke.proofs.offered.offered_within.Goals as goal

pub loop-point-init : goal.loop-point-init
loop-point-init c =
    let rest = c.into_iter-point-iterator.result.rest in
    let same : rest ≡ inside (now c.args.points) = search rules in
    ap (λ (s : ReasonSet). union s (offered (items_at point_item rest))) c.none-reasons.ensures
    ∙ none-union (offered (items_at point_item rest))
    ∙ ap (λ (p : Place). offered (items_at point_item p)) same

pub loop-point-preserved : goal.loop-point-preserved
loop-point-preserved c =
    let p = point_in c.in-Some.point in
    let ps = items_at point_item c.next.new.self.rest in
    let steps : items_at point_item c.loop-point.point-iterator.rest ≡ p ∷ ps = c.in-Some.ensures.steps in
    ap (λ (s : ReasonSet). union s (offered ps)) (c.union-reasons.ensures ∙ ap (union c.loop-point.reasons) c.own_reasons.ensures)
    ∙ union-assoc c.loop-point.reasons (offered_by p) (offered ps)
    ∙ ap (λ (xs : List Point). union c.loop-point.reasons (offered xs)) (sym steps) ∙ c.loop-point.invariant

pub returns : goal.returns
returns c =
    let none : items_at point_item c.loop-point.point-iterator.rest ≡ [] = search rules in
    sym (union-none c.loop-point.reasons) ∙ ap (λ (xs : List Point). union c.loop-point.reasons (offered xs)) (sym none) ∙ c.loop-point.invariant
