use Rattle.std.proofs.Common.{drop}
use Rattle.ts_constraint.specs.View.{bases_in}
use Rattle.ts_constraint.proofs.RangeTables.{RangesLeft}
use Rattle.ts_constraint.proofs.ranges.gather_long.Given as goal

abbrev pub invariant-loop-subtree : goal.invariant-loop-subtree
invariant-loop-subtree l = RangesLeft 16 l.ranges.items (bases_in (drop l.subtree-index l.subtrees)) (bases_in l.subtrees)
