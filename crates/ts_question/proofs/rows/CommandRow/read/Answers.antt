use Rattle.std.proofs.Common.{ap, Some, arith}
use Rattle.ts_question.specs.Rows.{CommandLine}
use Rattle.ts_codec.proofs.Laws.{whole_takes, the_one, no_one}
use Rattle.ts_question.proofs.RowLaws.{command_part}
use Rattle.ts_question.proofs.rows.CommandRow.read.Goals as goal

pub returns-in-Ok-clause-found : goal.returns-in-Ok-clause-found
returns-in-Ok-clause-found c = whole_takes command_part c.args.octets.now _ (λ i. omega (arith, c.type_inv.octets i)) c.in-Ok.ensures

pub returns-in-Ok-clause-only : goal.returns-in-Ok-clause-only
returns-in-Ok-clause-only c = λ l fit is. ap (λ (x : CommandLine). Some x) (the_one command_part c.args.octets.now _ l c.in-Ok.ensures fit is)

pub returns-in-Err-Form-clause-only : goal.returns-in-Err-Form-clause-only
returns-in-Err-Form-clause-only c = λ l fit is. absurd (no_one command_part c.args.octets.now l (rw c.in-Err-Form.field-0-is at c.in-Err-Form.ensures) fit is)
