use Rattle.ts_synod.proofs.laws.agreement.Goals as goal
use Rattle.ts_synod.proofs.Runs.{agreement}

pub returns : goal.returns
returns g c = λ store n events most. agreement n store events most
