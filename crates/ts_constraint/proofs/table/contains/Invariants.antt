use Rattle.std.proofs.Common.{◌≡◌, ◌↔◌, length}
use Rattle.ts_constraint.specs.Conditions.{Some_of}
use Rattle.ts_constraint.proofs.table.contains.Given as goal

abbrev pub invariant-loop-rest : goal.invariant-loop-rest
invariant-loop-rest l = Some_of (λ f. f ≡ l.form) l.forms ↔ Some_of (λ f. f ≡ l.form) l.rest

abbrev pub decreases-loop-rest : goal.decreases-loop-rest
decreases-loop-rest l = length l.rest
