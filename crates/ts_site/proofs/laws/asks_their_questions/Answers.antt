-- The law, by where a verdict is asked first.
use Rattle.ts_site.proofs.Asked.{question_is}
use Rattle.ts_site.proofs.laws.asks_their_questions.Goals as goal

pub returns : goal.returns
returns c = question_is
