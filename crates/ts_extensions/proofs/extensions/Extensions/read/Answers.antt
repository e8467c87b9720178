use Rattle.ts_der.specs.View.{now}
use Rattle.ts_extensions.proofs.ExtensionParts.{extensions-format}
use Rattle.ts_ext.proofs.Formats.{is_found, is_read, is_fault}
use Rattle.ts_extensions.proofs.Unlocated.{say}
use Rattle.ts_extensions.specs.ExtensionView.{extensions_in}
use Rattle.ts_extensions.proofs.extensions.Extensions.read.Goals as goal

pub returns-clause-found : goal.returns-clause-found
returns-clause-found c = is_found extensions-format (now c.args.element) c.read_extensions.result
    extensions_in c.args.element.octets
    (say (now c.args.element) c.read_extensions.result c.read_extensions.ensures)

pub returns-clause-only : goal.returns-clause-only
returns-clause-only c = is_read extensions-format (now c.args.element) c.read_extensions.result extensions_in (say (now c.args.element) c.read_extensions.result c.read_extensions.ensures)

pub returns-clause-fault : goal.returns-clause-fault
returns-clause-fault c = is_fault extensions-format (now c.args.element) c.read_extensions.result extensions_in (say (now c.args.element) c.read_extensions.result c.read_extensions.ensures)

pub returns-clause-exact : goal.returns-clause-exact
returns-clause-exact c = say (now c.args.element) c.read_extensions.result c.read_extensions.ensures
