use Rattle.ts_der.specs.View.{now}
use Rattle.ts_ext.proofs.Formats.{is_found, is_read, is_fault}
use Rattle.ts_ext.proofs.Policies.{certificate_policies-format}
use Rattle.ts_ext.specs.View.{policies_in}
use Rattle.ts_ext.proofs.certificate_policies.CertificatePolicies.read.Goals as goal

pub returns-clause-found : goal.returns-clause-found
returns-clause-found c = is_found certificate_policies-format (now c.args.element) c.read_certificate_policies.result policies_in c.args.element.octets c.read_certificate_policies.ensures

pub returns-clause-only : goal.returns-clause-only
returns-clause-only c = is_read certificate_policies-format (now c.args.element) c.read_certificate_policies.result policies_in c.read_certificate_policies.ensures

pub returns-clause-fault : goal.returns-clause-fault
returns-clause-fault c = is_fault certificate_policies-format (now c.args.element) c.read_certificate_policies.result policies_in c.read_certificate_policies.ensures
