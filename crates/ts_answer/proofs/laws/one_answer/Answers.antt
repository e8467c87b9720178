use Rattle.ts_answer.proofs.OneReply.{one_answer_of}
use Rattle.ts_answer.proofs.laws.one_answer.Goals as goal

pub returns : goal.returns
returns c = one_answer_of
