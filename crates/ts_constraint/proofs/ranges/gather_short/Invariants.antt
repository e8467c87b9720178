use Rattle.std.proofs.Common.{drop}
use Rattle.std.specs.Prelude.{map}
use Rattle.ts_constraint.specs.inside.Quads.{as_masked}
use Rattle.ts_constraint.specs.View.{bases_in}
use Rattle.ts_constraint.proofs.RangeTables.{RangesLeft}
use Rattle.ts_constraint.proofs.ranges.gather_short.Given as goal

abbrev pub invariant-loop-subtree : goal.invariant-loop-subtree
invariant-loop-subtree l = RangesLeft 4 (map as_masked l.ranges.items) (bases_in (drop l.subtree-index l.subtrees)) (bases_in l.subtrees)
