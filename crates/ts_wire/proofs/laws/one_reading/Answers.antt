use Rattle.ts_wire.proofs.Streams.{one_reading}
use Rattle.ts_wire.proofs.laws.one_reading.Goals as goal

pub returns-clause-frames : goal.returns-clause-frames
returns-clause-frames c = λ stream frames others fault other s t. (one_reading stream frames others fault other s t).same_frames

pub returns-clause-fault : goal.returns-clause-fault
returns-clause-fault c = λ stream frames others fault other s t. (one_reading stream frames others fault other s t).same_fault
