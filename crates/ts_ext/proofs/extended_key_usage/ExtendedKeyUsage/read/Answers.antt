use Rattle.ts_der.specs.View.{now}
use Rattle.ts_ext.proofs.Formats.{is_found, is_read, is_fault}
use Rattle.ts_ext.proofs.Policies.{ext_key_usage-format}
use Rattle.ts_ext.specs.View.{purposes_in}
use Rattle.ts_ext.proofs.extended_key_usage.ExtendedKeyUsage.read.Goals as goal

pub returns-clause-found : goal.returns-clause-found
returns-clause-found c = is_found ext_key_usage-format (now c.args.element) c.read_extended_key_usage.result purposes_in c.args.element.octets c.read_extended_key_usage.ensures

pub returns-clause-only : goal.returns-clause-only
returns-clause-only c = is_read ext_key_usage-format (now c.args.element) c.read_extended_key_usage.result purposes_in c.read_extended_key_usage.ensures

pub returns-clause-fault : goal.returns-clause-fault
returns-clause-fault c = is_fault ext_key_usage-format (now c.args.element) c.read_extended_key_usage.result purposes_in c.read_extended_key_usage.ensures
