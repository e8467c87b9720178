use Rattle.std.proofs.Common.{◌+◌, List, [], Option, drop, subst, sym, ap, ◌∙◌}
use Rattle.std.specs.Prelude.{map, unwrap_or, option_map}
use Rattle.ts_ext.specs.declared.reason_set.ReasonSet.{ReasonSet}
use Rattle.ts_ext.specs.NameViews.{points_in}
use Rattle.ts_crl.specs.declared.crl.Crl.{Crl}
use Rattle.ts_crl.specs.ListView.{crl_in}
use Rattle.ts_revoke.specs.declared.found.Found.{Found}
use Rattle.ts_revoke.specs.inside.ByList.{earlier, found_after, reasons_after}
use Rattle.ts_revoke.specs.inside.Looked.{AreLooked}
use Rattle.ts_revoke.specs.Reasons.{union}
use Rattle.ts_revoke.specs.View.{question_in}
use Rattle.ts_revoke.proofs.Looking.{next_is, looked_more}
use Rattle.ts_revoke.proofs.own_pass.seen_among.Goals as goal

pub loop-place-preserved : goal.loop-place-preserved
loop-place-preserved g c =
    let q = question_in c.args.q.now (g.S.SignatureCheck.accepts c.args.check.now) in
    let points = unwrap_or (option_map points_in c.args.points.now) [] in
    let lists = c.args.q.now.crls.now.lists.now in
    let place = c.loop-place.place in
    let crl = c.crl-item.result in
    let i = c.loop-place.invariant in
    let said = c.said_by-said.ensures in
    let rest = map crl_in (drop (place + 1) lists) in
    let steps = next_is lists place crl c.loop-place-test.true c.crl-item.is in (
      ap (λ (f : Option Found). found_after q points f rest) (c.earlier-found.ensures ∙ ap (earlier c.loop-place.found) said.found)
          ∙ ap (λ (ls : List Crl). found_after q points c.loop-place.found (map crl_in ls)) (sym steps) ∙ i.0,
      ap (λ (s : ReasonSet). reasons_after q points s rest) (c.union-reasons.ensures ∙ ap (union c.loop-place.reasons) said.reasons)
          ∙ ap (λ (ls : List Crl). reasons_after q points c.loop-place.reasons (map crl_in ls)) (sym steps) ∙ i.1,
      subst (AreLooked q lists) (sym c.keep.ensures) (looked_more q lists c.loop-place.table place crl c.said_by-said.result.looked c.loop-place-test.true c.crl-item.is said.looked i.2),
    )
