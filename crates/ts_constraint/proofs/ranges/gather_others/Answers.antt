use Rattle.std.proofs.Common.{◌≡◌, ◌+◌, ◌∷◌, List, [], drop, refl, ap, sym, ◌∙◌}
use Rattle.std.specs.Prelude.{map}
use Rattle.std.proofs.lemmas.List.{drop_all, map-append}
use Rattle.ts_name.specs.declared.subtree.Subtree.{Subtree}
use Rattle.ts_name.specs.General.{GeneralName}
use Rattle.ts_name.specs.GeneralView.{general_in}
use Rattle.ts_name.specs.SubtreeView.{subtree_in}
use Rattle.ts_constraint.specs.View.{bases_in}
use Rattle.ts_constraint.proofs.RangeTables.{others-skip, others-more, others-all}
use Rattle.ts_constraint.proofs.Tables.{next-base}
use Rattle.ts_constraint.proofs.ranges.gather_others.Goals as goal

pub loop-subtree-preserved-then-not-may_be_other : goal.loop-subtree-preserved-then-not-may_be_other
loop-subtree-preserved-then-not-may_be_other c =
    let xs = c.args.subtrees.now in
    let i = c.loop-subtree.subtree-index in
    let x = c.subtree-item.result in
    let rest = bases_in (drop (i + 1) xs) in
    others-skip (bases_in c.loop-subtree.others.items) (general_in c.base.result) (bases_in (drop i xs)) rest (bases_in xs)
    (next-base xs i x c.loop-subtree-test.true c.subtree-item.is ∙ ap (λ (b : GeneralName). b ∷ rest) (sym c.base.ensures)) (c.if-not-may_be_other.ensures refl) c.loop-subtree.invariant

pub loop-subtree-preserved : goal.loop-subtree-preserved
loop-subtree-preserved c =
    let xs = c.args.subtrees.now in
    let i = c.loop-subtree.subtree-index in
    let x = c.subtree-item.result in
    let rest = bases_in (drop (i + 1) xs) in
    others-more (bases_in c.loop-subtree.others.items) (bases_in c.push.new.self.items) (subtree_in x).base (bases_in (drop i xs)) rest (bases_in xs)
    (ap bases_in c.in_ok-push.ensures.items
    ∙ map-append (λ (s : Subtree). (subtree_in s).base) c.loop-subtree.others.items (x ∷ []))
    (next-base xs i x c.loop-subtree-test.true c.subtree-item.is) c.loop-subtree.invariant

pub returns : goal.returns
returns c =
    let xs = c.args.subtrees.now in
    let i = c.loop-subtree.subtree-index in
    others-all (bases_in c.loop-subtree.others.items) (bases_in (drop i xs)) (bases_in xs) (ap bases_in (drop_all i xs c.loop-subtree-test.false)) c.loop-subtree.invariant
