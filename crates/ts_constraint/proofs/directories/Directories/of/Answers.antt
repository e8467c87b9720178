use Rattle.ts_name.specs.Sameness.{canon_name}
use Rattle.ts_constraint.specs.inside.Directories.{form_in}
use Rattle.ts_constraint.specs.View.{bases_in}
use Rattle.ts_constraint.proofs.Tables.{by-names}
use Rattle.ts_constraint.proofs.directories.Directories.of.Goals as goal

pub returns : goal.returns
returns c = λ name. by-names form_in c.in_ok-names.names.items (bases_in c.args.subtrees.now) _ name c.in_ok-names.ensures (c.new.ensures (canon_name name))
