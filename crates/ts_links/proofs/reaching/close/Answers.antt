use Rattle.ts_links.proofs.Reached.{quiet_close}
use Rattle.ts_links.proofs.reaching.close.Goals as goal

pub returns-clause-quiet : goal.returns-clause-quiet
returns-clause-quiet c = quiet_close _ _ c.args.slot _ c.close.ensures.closed (λ no. (c.close.ensures.none no).0)
