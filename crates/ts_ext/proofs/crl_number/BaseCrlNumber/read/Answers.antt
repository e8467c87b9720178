use Rattle.ts_der.specs.View.{now}
use Rattle.ts_ext.proofs.Formats.{is_found, is_read, is_fault}
use Rattle.ts_ext.proofs.Values.{base_crl_number-format}
use Rattle.ts_ext.proofs.crl_number.BaseCrlNumber.read.Goals as goal

pub returns-clause-found : goal.returns-clause-found
returns-clause-found c = is_found base_crl_number-format (now c.args.element) c.read_base_crl_number.result (λ n. n.octets.now) c.args.element.octets c.read_base_crl_number.ensures

pub returns-clause-only : goal.returns-clause-only
returns-clause-only c = is_read base_crl_number-format (now c.args.element) c.read_base_crl_number.result (λ n. n.octets.now) c.read_base_crl_number.ensures

pub returns-clause-fault : goal.returns-clause-fault
returns-clause-fault c = is_fault base_crl_number-format (now c.args.element) c.read_base_crl_number.result (λ n. n.octets.now) c.read_base_crl_number.ensures
