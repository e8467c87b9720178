use Rattle.ts_ring.proofs.Fields.{quotient-times}
use Rattle.ts_ring.proofs.laws.quotient.Goals as goal

pub returns : goal.returns
returns c = quotient-times
