use Rattle.std.proofs.Common.{refl}
use Rattle.ts_der.specs.View.{now}
use Rattle.ts_ext.proofs.Formats.{is_found, is_answer, is_fault}
use Rattle.ts_ext.proofs.Constraints.{basic_constraints-format}
use Rattle.ts_ext.proofs.basic_constraints.BasicConstraints.read.Goals as goal

pub returns-clause-found : goal.returns-clause-found
returns-clause-found c = is_found basic_constraints-format (now c.args.element) c.of_element.result (λ b. b) c.args.element.octets c.of_element.ensures

pub returns-clause-only : goal.returns-clause-only
returns-clause-only c = is_answer basic_constraints-format (now c.args.element) c.of_element.result (λ b. b) (λ b. b) (λ y. refl) c.of_element.ensures

pub returns-clause-fault : goal.returns-clause-fault
returns-clause-fault c = is_fault basic_constraints-format (now c.args.element) c.of_element.result (λ b. b) c.of_element.ensures
