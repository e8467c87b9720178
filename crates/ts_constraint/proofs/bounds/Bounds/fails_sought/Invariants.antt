use Rattle.std.proofs.Common.{◌↔◌, length}
use Rattle.ts_constraint.specs.Conditions.{Some_of, FailsAt}
use Rattle.ts_constraint.specs.inside.Sought.{name_in}
use Rattle.ts_constraint.proofs.bounds.Bounds.fails_sought.Given as goal

abbrev pub invariant-loop-rest : goal.invariant-loop-rest
invariant-loop-rest l = Some_of (FailsAt l.condition (name_in l.name)) l.self ↔ Some_of (FailsAt l.condition (name_in l.name)) l.rest

abbrev pub decreases-loop-rest : goal.decreases-loop-rest
decreases-loop-rest l = length l.rest
