use Rattle.ts_synod.proofs.laws.only_submitted.Goals as goal
use Rattle.ts_synod.proofs.Runs.{only_submitted}

pub returns : goal.returns
returns g c = λ store n events p d most h. only_submitted n store events p d most h
