-- What is taken, and what is delivered.
use Rattle.ts_links.proofs.Reached.{reached_then}
use Rattle.ts_peers.proofs.carrier.Carrier.take_once.Goals as goal

pub returns-clause-reached : goal.returns-clause-reached
returns-clause-reached g c = reached_then g.S.Service.turn g.S.Service.keeps _ _ _ _ _ _ c.ask.ensures.reached c.deliver.ensures.reached
