use Rattle.std.proofs.Common.{◌≡◌, ◌++◌, length}
use Rattle.std.specs.Prelude.{map}
use Rattle.ts_constraint.specs.inside.Ending.{octets}
use Rattle.ts_constraint.specs.inside.Hosts.{domain_endings}
use Rattle.ts_constraint.specs.View.{bases_in}
use Rattle.ts_constraint.proofs.hosts.gather_domains.Given as goal

abbrev pub invariant-loop-rest : goal.invariant-loop-rest
invariant-loop-rest l = domain_endings (bases_in l.subtrees) ≡ map octets l.endings.items ++ domain_endings (bases_in l.rest)

abbrev pub decreases-loop-rest : goal.decreases-loop-rest
decreases-loop-rest l = length l.rest
