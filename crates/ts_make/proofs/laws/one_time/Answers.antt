use Rattle.ts_make.proofs.OneTime.{one-time}
use Rattle.ts_make.proofs.laws.one_time.Goals as goal

pub returns : goal.returns
returns c = one-time
