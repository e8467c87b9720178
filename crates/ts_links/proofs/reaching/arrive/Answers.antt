use Rattle.ts_links.proofs.Reached.{quiet_arrive}
use Rattle.ts_links.proofs.reaching.arrive.Goals as goal

pub returns-clause-quiet : goal.returns-clause-quiet
returns-clause-quiet c = quiet_arrive _ _ _ _ _ _ c.arrive.ensures
