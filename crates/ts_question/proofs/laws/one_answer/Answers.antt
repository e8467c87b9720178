use Rattle.ts_question.proofs.Replies.{one_answer}
use Rattle.ts_question.proofs.laws.one_answer.Goals as goal

pub returns-clause-answer : goal.returns-clause-answer
returns-clause-answer c = one_answer
