use Rattle.ts_der.specs.View.{now}
use Rattle.ts_ext.specs.NameViews.{name_constraints_in}
use Rattle.ts_ext.proofs.Formats.{is_found, is_read, is_fault}
use Rattle.ts_ext.proofs.KeyAndConstraints.{name_constraints-format}
use Rattle.ts_ext.proofs.name_constraints.NameConstraints.read.Goals as goal

pub returns-clause-found : goal.returns-clause-found
returns-clause-found c = is_found name_constraints-format (now c.args.element) c.read_name_constraints.result name_constraints_in c.args.element.octets c.read_name_constraints.ensures

pub returns-clause-only : goal.returns-clause-only
returns-clause-only c = is_read name_constraints-format (now c.args.element) c.read_name_constraints.result name_constraints_in c.read_name_constraints.ensures

pub returns-clause-fault : goal.returns-clause-fault
returns-clause-fault c = is_fault name_constraints-format (now c.args.element) c.read_name_constraints.result name_constraints_in c.read_name_constraints.ensures
