use Rattle.std.proofs.Common.{ap, Some, arith}
use Rattle.ts_question.specs.Reply.{NumberedReply}
use Rattle.ts_codec.proofs.Laws.{whole_takes, the_one, no_one}
use Rattle.ts_question.proofs.Replies.{answer_part}
use Rattle.ts_question.proofs.reply.Answer.read.Goals as goal

pub invariant_of-result : goal.invariant_of-result
invariant_of-result c = (whole_takes answer_part c.args.octets.now _ (λ i. omega (arith, c.type_inv.octets i)) c.in-Ok.ensures).0

pub returns-in-Ok-clause-found : goal.returns-in-Ok-clause-found
returns-in-Ok-clause-found c = whole_takes answer_part c.args.octets.now _ (λ i. omega (arith, c.type_inv.octets i)) c.in-Ok.ensures

pub returns-in-Ok-clause-only : goal.returns-in-Ok-clause-only
returns-in-Ok-clause-only c = λ a fit is. ap (λ (x : NumberedReply). Some x) (the_one answer_part c.args.octets.now _ a c.in-Ok.ensures fit is)

pub returns-in-Err-Form-clause-only : goal.returns-in-Err-Form-clause-only
returns-in-Err-Form-clause-only c = λ a fit is. absurd (no_one answer_part c.args.octets.now a (rw c.in-Err-Form.field-0-is at c.in-Err-Form.ensures) fit is)
