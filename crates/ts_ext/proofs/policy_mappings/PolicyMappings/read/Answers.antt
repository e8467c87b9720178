use Rattle.ts_der.specs.View.{now}
use Rattle.ts_ext.proofs.Formats.{is_found, is_read, is_fault}
use Rattle.ts_ext.proofs.Policies.{policy_mappings-format}
use Rattle.ts_ext.specs.View.{mappings_in}
use Rattle.ts_ext.proofs.policy_mappings.PolicyMappings.read.Goals as goal

pub returns-clause-found : goal.returns-clause-found
returns-clause-found c = is_found policy_mappings-format (now c.args.element) c.read_policy_mappings.result mappings_in c.args.element.octets c.read_policy_mappings.ensures

pub returns-clause-only : goal.returns-clause-only
returns-clause-only c = is_read policy_mappings-format (now c.args.element) c.read_policy_mappings.result mappings_in c.read_policy_mappings.ensures

pub returns-clause-fault : goal.returns-clause-fault
returns-clause-fault c = is_fault policy_mappings-format (now c.args.element) c.read_policy_mappings.result mappings_in c.read_policy_mappings.ensures
