use Rattle.ts_links.proofs.Reached.{quiet_open}
use Rattle.ts_links.proofs.reaching.open.Goals as goal

pub returns-clause-quiet : goal.returns-clause-quiet
returns-clause-quiet c = quiet_open _ _ _ _ c.open.ensures
