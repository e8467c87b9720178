use Rattle.std.proofs.Common.{◌↔◌, length}
use Rattle.ts_name.specs.GeneralView.{general_in}
use Rattle.ts_name.specs.Holds.{Holds}
use Rattle.ts_constraint.specs.Conditions.{Some_of}
use Rattle.ts_constraint.specs.View.{bases_in}
use Rattle.ts_constraint.proofs.ranges.hold.Given as goal

abbrev pub invariant-loop-rest : goal.invariant-loop-rest
invariant-loop-rest l = Some_of (λ base. Holds base (general_in l.name)) (bases_in l.subtrees) ↔ Some_of (λ base. Holds base (general_in l.name)) (bases_in l.rest)

abbrev pub decreases-loop-rest : goal.decreases-loop-rest
decreases-loop-rest l = length l.rest
