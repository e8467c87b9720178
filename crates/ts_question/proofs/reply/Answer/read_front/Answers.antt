use Rattle.std.proofs.Common.{arith}
use Rattle.ts_question.proofs.Replies.{answer_part}
use Rattle.ts_question.proofs.reply.Answer.read_front.Goals as goal

pub invariant_of-result : goal.invariant_of-result
invariant_of-result c = (answer_part.takes c.args.octets.now _ _ (λ i. omega (arith, c.type_inv.octets i)) c.in_ok-k.ensures).1
