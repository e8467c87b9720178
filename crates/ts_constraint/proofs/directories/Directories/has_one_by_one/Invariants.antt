use Rattle.std.proofs.Common.{◌≡◌, length}
use Rattle.ts_name.specs.NameView.{rdns_in}
use Rattle.ts_name.specs.Sameness.{canon_name}
use Rattle.ts_constraint.specs.inside.Directories.{has_directory}
use Rattle.ts_constraint.proofs.directories.Directories.has_one_by_one.Given as goal

abbrev pub invariant-loop-rest : goal.invariant-loop-rest
invariant-loop-rest l = has_directory l.self.entries.items (canon_name (rdns_in l.name)) ≡ has_directory l.rest (canon_name (rdns_in l.name))

abbrev pub decreases-loop-rest : goal.decreases-loop-rest
decreases-loop-rest l = length l.rest
