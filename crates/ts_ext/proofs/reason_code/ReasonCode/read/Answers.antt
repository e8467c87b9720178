use Rattle.std.proofs.Common.{refl}
use Rattle.ts_der.specs.View.{now}
use Rattle.ts_ext.proofs.Formats.{is_found, is_answer, is_fault}
use Rattle.ts_ext.proofs.Values.{reason_code-format}
use Rattle.ts_ext.proofs.reason_code.ReasonCode.read.Goals as goal

pub returns-clause-found : goal.returns-clause-found
returns-clause-found c = is_found reason_code-format (now c.args.element) c.of_element.result (λ r. r) c.args.element.octets c.of_element.ensures

pub returns-clause-only : goal.returns-clause-only
returns-clause-only c = is_answer reason_code-format (now c.args.element) c.of_element.result (λ r. r) (λ r. r) (λ y. refl) c.of_element.ensures

pub returns-clause-fault : goal.returns-clause-fault
returns-clause-fault c = is_fault reason_code-format (now c.args.element) c.of_element.result (λ r. r) c.of_element.ensures
