use Rattle.ts_replay.proofs.Runs.{at_end}
use Rattle.ts_replay.proofs.laws.replays_end.Goals as goal

pub returns : goal.returns
returns c = at_end
