-- A look, and a proposal.
use Rattle.ts_links.proofs.Reached.{reached_then}
use Rattle.ts_peers.proofs.carrier.Carrier.follow.Goals as goal

pub returns-clause-reached : goal.returns-clause-reached
returns-clause-reached g c = reached_then g.S.Service.turn g.S.Service.keeps _ _ _ _ _ _ c.is_over.ensures.reached c.propose_again.ensures.reached
