use Rattle.std.proofs.Common.{rules, ◌≡◌, ◌+◌, ◌<◌, List, [], ◌∷◌, length, Bool, sym, ap, ◌∙◌, if◌then◌else◌, arith}
use Rattle.std.specs.Prelude.{option_map}
use Rattle.ts_der.specs.Element.{Place, inside}
use Rattle.ts_der.specs.View.{now}
use Rattle.ts_shape.specs.Items.{items_at}
use Rattle.ts_ext.specs.declared.reason_set.ReasonSet.{ReasonSet}
use Rattle.ts_ext.specs.NamedBits.{no_reasons}
use Rattle.ts_ext.specs.NameViews.{point_in, issuing_point_in}
use Rattle.ts_ext.specs.Points.{Point, point_item}
use Rattle.ts_revoke.specs.inside.ByList.{is_reached, first_reached, reached_reasons}
use Rattle.ts_revoke.specs.Decision.{or_reason}
use Rattle.ts_revoke.specs.Reasons.{union}
use Rattle.ts_revoke.specs.Usable.{mask_of}
use Rattle.ts_revoke.proofs.Reaching.{items_few, place_more}
use Rattle.ts_revoke.proofs.Sets.{none-union, union-none, union-assoc}
use Rattle.ts_revoke.proofs.reach.reach_within.Goals as goal

pub loop-point-init : goal.loop-point-init
loop-point-init c =
    let scope = option_map issuing_point_in c.args.scope.now in
    let rest = c.into_iter-point-iterator.result.rest in
    let same : rest ≡ inside (now c.args.points) = search rules in
    let few = items_few point_item rest in
    let long : length rest.rest ≡ length c.args.points.content.now = ap (λ (p : Place). length p.rest) same in (
      ap (λ (p : Place). first_reached scope 0 (items_at point_item p)) same,
      ap (λ (s : ReasonSet). union s (reached_reasons scope (items_at point_item rest))) c.none-reasons.ensures
          ∙ none-union (reached_reasons scope (items_at point_item rest))
          ∙ ap (λ (p : Place). reached_reasons scope (items_at point_item p)) same,
      omega (arith, few, long),
    )

pub loop-point-preserved : goal.loop-point-preserved
loop-point-preserved c =
    let i = c.loop-point.invariant in
    let scope = option_map issuing_point_in c.args.scope.now in
    let p = point_in c.in-Some.point in
    let ps = items_at point_item c.next.new.self.rest in
    let steps : items_at point_item c.loop-point.point-iterator.rest ≡ p ∷ ps = c.in-Some.ensures.steps in
    let count : length (items_at point_item c.loop-point.point-iterator.rest) ≡ length (p ∷ ps) = ap (λ (xs : List Point). length xs) steps in
    let below : c.loop-point.index < length c.args.points.content.now = omega (arith, count, i.2) in
    let more : c.next-index.result ≡ c.loop-point.index + 1 = c.next-index.ensures below in
    let mask : Bool → ReasonSet = λ b. if b then mask_of p scope else no_reasons in (
      place_more scope c.loop-point.place c.first_place-place.result c.is_reached-reached.result
          c.loop-point.index c.next-index.result p ps c.is_reached-reached.ensures
          c.first_place-place.ensures more
          ∙ ap (λ (xs : List Point). or_reason c.loop-point.place (first_reached scope c.loop-point.index xs)) (sym steps) ∙ i.0,
      ap (λ (s : ReasonSet). union s (reached_reasons scope ps)) (c.union-reasons.ensures ∙ ap (union c.loop-point.reasons) (c.mask_if.ensures ∙ ap mask c.is_reached-reached.ensures))
          ∙ union-assoc c.loop-point.reasons (mask (is_reached scope p)) (reached_reasons scope ps)
          ∙ ap (λ (xs : List Point). union c.loop-point.reasons (reached_reasons scope xs)) (sym steps) ∙ i.1,
      omega (arith, count, i.2, more),
    )

pub returns-clause-reasons : goal.returns-clause-reasons
returns-clause-reasons c =
    let i = c.loop-point.invariant in
    let scope = option_map issuing_point_in c.args.scope.now in
    let none : items_at point_item c.loop-point.point-iterator.rest ≡ [] = search rules in
    sym (union-none c.loop-point.reasons) ∙ ap (λ (xs : List Point). union c.loop-point.reasons (reached_reasons scope xs)) (sym none) ∙ i.1
