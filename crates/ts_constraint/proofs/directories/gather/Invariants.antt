use Rattle.std.proofs.Common.{◌≡◌, ◌++◌, length}
use Rattle.std.specs.Prelude.{map}
use Rattle.ts_constraint.specs.inside.Directories.{form_in}
use Rattle.ts_constraint.specs.inside.Directory.{directory_forms}
use Rattle.ts_constraint.specs.View.{bases_in}
use Rattle.ts_constraint.proofs.directories.gather.Given as goal

abbrev pub invariant-loop-rest : goal.invariant-loop-rest
invariant-loop-rest l = directory_forms (bases_in l.subtrees) ≡ map form_in l.names.items ++ directory_forms (bases_in l.rest)

abbrev pub decreases-loop-rest : goal.decreases-loop-rest
decreases-loop-rest l = length l.rest
