use Rattle.ts_sync.proofs.Plans.{rest}
use Rattle.ts_sync.proofs.laws.plans_rest.Goals as goal

pub returns : goal.returns
returns c = rest
