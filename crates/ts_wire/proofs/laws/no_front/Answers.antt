use Rattle.ts_wire.proofs.Streams.{same_frame, same_rest}
use Rattle.ts_wire.proofs.laws.no_front.Goals as goal

pub returns-clause-frame : goal.returns-clause-frame
returns-clause-frame c = same_frame

pub returns-clause-rest : goal.returns-clause-rest
returns-clause-rest c = same_rest
