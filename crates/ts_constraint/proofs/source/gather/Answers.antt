use Rattle.std.proofs.Common.{◌≡◌, List, [], ◌∷◌, ◌++◌, sym, ap, ◌∙◌}
use Rattle.std.specs.Prelude.{map}
use Rattle.std.proofs.lemmas.List.{map-append}
use Rattle.ts_name.specs.declared.subtree.Subtree.{Subtree}
use Rattle.ts_name.specs.General.{GeneralName}
use Rattle.ts_name.specs.Subtree.{GeneralSubtree}
use Rattle.ts_name.specs.SubtreeView.{subtree_in}
use Rattle.ts_ext.specs.NameViews.{subtrees_in}
use Rattle.ts_constraint.specs.Source.{bases}
use Rattle.ts_constraint.specs.View.{bases_in}
use Rattle.ts_constraint.proofs.Shown.{goes}
use Rattle.ts_constraint.proofs.source.gather.Goals as goal

pub loop-subtree-preserved : goal.loop-subtree-preserved
loop-subtree-preserved c =
    let i = c.loop-subtree.invariant in
    let x = subtree_in c.in-Some.subtree in
    let all = i.3 ∙ ap (λ (xs : List GeneralSubtree). i.2 ++ xs) c.in-Some.ensures.steps in (
      tt,
      tt,
      i.2 ++ x ∷ [],
      goes (subtrees_in c.args.list) i.2 _ x all,
      ap bases_in c.in_ok-push.ensures.items
          ∙ (map-append (λ (s : Subtree). (subtree_in s).base) c.loop-subtree.subtrees.items (c.in-Some.subtree ∷ [])
          ∙ (ap (λ (xs : List GeneralName). xs ++ x.base ∷ []) i.4 ∙ sym (map-append (λ (s : GeneralSubtree). s.base) i.2 (x ∷ [])))),
    )
