use Rattle.ts_search.proofs.OneList.{one_candidates}
use Rattle.ts_search.proofs.OneAnswer.{one_answer}
use Rattle.ts_search.proofs.laws.one_answer.Goals as goal

pub returns-clause-candidates : goal.returns-clause-candidates
returns-clause-candidates c = one_candidates

pub returns-clause-answer : goal.returns-clause-answer
returns-clause-answer c = one_answer
