use Rattle.std.proofs.Common.{ap, sym, Some, arith}
use Rattle.ts_question.specs.Question.{StoreQuestion}
use Rattle.ts_codec.proofs.Laws.{whole_takes, the_one, no_one}
use Rattle.ts_question.proofs.Fields.{question_part}
use Rattle.ts_question.proofs.question.Question.read.Goals as goal

pub invariant_of-result : goal.invariant_of-result
invariant_of-result c = (whole_takes question_part c.args.octets.now _ (λ i. omega (arith, c.type_inv.octets i)) c.in-Ok.ensures).0

pub returns-in-Ok-clause-exact : goal.returns-in-Ok-clause-exact
returns-in-Ok-clause-exact c = sym c.in-Ok.ensures

pub returns-in-Err-Form-clause-exact : goal.returns-in-Err-Form-clause-exact
returns-in-Err-Form-clause-exact c = sym (rw c.in-Err-Form.field-0-is at c.in-Err-Form.ensures)

pub returns-in-Ok-clause-found : goal.returns-in-Ok-clause-found
returns-in-Ok-clause-found c = whole_takes question_part c.args.octets.now _ (λ i. omega (arith, c.type_inv.octets i)) c.in-Ok.ensures

pub returns-in-Ok-clause-only : goal.returns-in-Ok-clause-only
returns-in-Ok-clause-only c = λ q fit is. ap (λ (x : StoreQuestion). Some x) (the_one question_part c.args.octets.now _ q c.in-Ok.ensures fit is)

pub returns-in-Err-Form-clause-only : goal.returns-in-Err-Form-clause-only
returns-in-Err-Form-clause-only c = λ q fit is. absurd (no_one question_part c.args.octets.now q (rw c.in-Err-Form.field-0-is at c.in-Err-Form.ensures) fit is)
