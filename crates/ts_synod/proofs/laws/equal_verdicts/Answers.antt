use Rattle.ts_synod.proofs.laws.equal_verdicts.Goals as goal
use Rattle.ts_synod.proofs.Verdicts.{equal_verdicts}

pub returns : goal.returns
returns g c = λ store n events most. equal_verdicts n store events most
