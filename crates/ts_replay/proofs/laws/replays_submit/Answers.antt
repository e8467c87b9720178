use Rattle.ts_replay.proofs.Runs.{at_submission}
use Rattle.ts_replay.proofs.laws.replays_submit.Goals as goal

pub returns : goal.returns
returns c = at_submission
