use Rattle.ts_der.specs.View.{now}
use Rattle.ts_ext.specs.NameViews.{alternatives_in}
use Rattle.ts_ext.proofs.Formats.{is_found, is_read, is_fault}
use Rattle.ts_ext.proofs.Names.{general_names-format}
use Rattle.ts_ext.proofs.alternative_names.AlternativeNames.read.Goals as goal

pub returns-clause-found : goal.returns-clause-found
returns-clause-found c = is_found general_names-format (now c.args.element) c.read_alternative_names.result alternatives_in c.args.element.octets c.read_alternative_names.ensures

pub returns-clause-only : goal.returns-clause-only
returns-clause-only c = is_read general_names-format (now c.args.element) c.read_alternative_names.result alternatives_in c.read_alternative_names.ensures

pub returns-clause-fault : goal.returns-clause-fault
returns-clause-fault c = is_fault general_names-format (now c.args.element) c.read_alternative_names.result alternatives_in c.read_alternative_names.ensures
