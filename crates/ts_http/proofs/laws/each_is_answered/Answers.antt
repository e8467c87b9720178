-- The law, by what is known after all moves.
use Rattle.ts_http.proofs.Fairness.{fair}
use Rattle.ts_http.proofs.laws.each_is_answered.Goals as goal

pub returns : goal.returns
returns c = fair
