use Rattle.std.proofs.Common.{refl}
use Rattle.ts_der.specs.View.{now}
use Rattle.ts_ext.proofs.Formats.{is_found, is_answer, is_fault}
use Rattle.ts_ext.proofs.Constraints.{policy_constraints-format}
use Rattle.ts_ext.proofs.policy_constraints.PolicyConstraints.read.Goals as goal

pub returns-clause-found : goal.returns-clause-found
returns-clause-found c = is_found policy_constraints-format (now c.args.element) c.of_element.result (λ p. p) c.args.element.octets c.of_element.ensures

pub returns-clause-only : goal.returns-clause-only
returns-clause-only c = is_answer policy_constraints-format (now c.args.element) c.of_element.result (λ p. p) (λ p. p) (λ y. refl) c.of_element.ensures

pub returns-clause-fault : goal.returns-clause-fault
returns-clause-fault c = is_fault policy_constraints-format (now c.args.element) c.of_element.result (λ p. p) c.of_element.ensures
