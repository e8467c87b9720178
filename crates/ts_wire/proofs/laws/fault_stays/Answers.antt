use Rattle.ts_wire.proofs.Streams.{stays}
use Rattle.ts_wire.proofs.laws.fault_stays.Goals as goal

pub returns : goal.returns
returns c = stays
