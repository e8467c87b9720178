use Rattle.ts_links.proofs.Reached.{quiet_leave}
use Rattle.ts_links.proofs.reaching.leave.Goals as goal

pub returns-clause-quiet : goal.returns-clause-quiet
returns-clause-quiet c = quiet_leave _ _ _ _ _ _ c.leave.ensures
