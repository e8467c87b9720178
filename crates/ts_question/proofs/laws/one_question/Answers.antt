use Rattle.ts_question.proofs.Fields.{one_question}
use Rattle.ts_question.proofs.laws.one_question.Goals as goal

pub returns-clause-question : goal.returns-clause-question
returns-clause-question c = one_question
