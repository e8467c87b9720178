use Rattle.ts_ring.proofs.Fields.{cancel}
use Rattle.ts_ring.proofs.laws.cancellation.Goals as goal

pub returns : goal.returns
returns c = cancel
