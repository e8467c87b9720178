use Rattle.std.proofs.Common.{◌≡◌, ◌+◌, ◌∷◌, List, drop, ap, sym, ◌∙◌}
use Rattle.std.proofs.lemmas.List.{drop_all}
use Rattle.ts_name.specs.General.{GeneralName}
use Rattle.ts_name.specs.GeneralView.{general_in}
use Rattle.ts_constraint.specs.View.{bases_in}
use Rattle.ts_constraint.proofs.RangeTables.{ranges-skip, ranges-more, ranges-all}
use Rattle.ts_constraint.proofs.Tables.{next-base}
use Rattle.ts_constraint.proofs.ranges.gather_long.Goals as goal

pub loop-subtree-preserved-in_default : goal.loop-subtree-preserved-in_default
loop-subtree-preserved-in_default c =
    let xs = c.args.subtrees.now in
    let i = c.loop-subtree.subtree-index in
    let x = c.subtree-item.result in
    let rest = bases_in (drop (i + 1) xs) in
    ranges-skip 16 c.loop-subtree.ranges.items (general_in c.base.result) c.range_of.result (bases_in (drop i xs)) rest (bases_in xs) c.in_default.is
    (next-base xs i x c.loop-subtree-test.true c.subtree-item.is ∙ ap (λ (b : GeneralName). b ∷ rest) (sym c.base.ensures)) c.range_of.ensures.found c.loop-subtree.invariant

pub loop-subtree-preserved : goal.loop-subtree-preserved
loop-subtree-preserved c =
    let xs = c.args.subtrees.now in
    let i = c.loop-subtree.subtree-index in
    let x = c.subtree-item.result in
    let rest = bases_in (drop (i + 1) xs) in
    ranges-more 16 c.loop-subtree.ranges.items c.push.new.self.items c.in-Some.range
    (general_in c.base.result) c.range_of.result (bases_in (drop i xs)) rest
    (bases_in xs) c.in_ok-push.ensures.items c.in-Some.is
    (next-base xs i x c.loop-subtree-test.true c.subtree-item.is ∙ ap (λ (b : GeneralName). b ∷ rest) (sym c.base.ensures)) c.range_of.ensures.found c.loop-subtree.invariant

pub returns : goal.returns
returns c =
    let xs = c.args.subtrees.now in
    let i = c.loop-subtree.subtree-index in
    ranges-all 16 c.loop-subtree.ranges.items (bases_in (drop i xs)) (bases_in xs) (ap bases_in (drop_all i xs c.loop-subtree-test.false)) c.loop-subtree.invariant
