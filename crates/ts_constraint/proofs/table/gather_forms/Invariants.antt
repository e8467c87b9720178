use Rattle.std.proofs.Common.{drop}
use Rattle.ts_constraint.specs.View.{bases_in}
use Rattle.ts_constraint.proofs.Tables.{Left}
use Rattle.ts_constraint.proofs.table.gather_forms.Given as goal

abbrev pub invariant-loop-subtree : goal.invariant-loop-subtree
invariant-loop-subtree l = Left l.forms.items (bases_in (drop l.subtree-index l.subtrees)) (bases_in l.subtrees)
