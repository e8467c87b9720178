-- What is carried, and what is looked after.
use Rattle.ts_links.proofs.Reached.{reached_then}
use Rattle.ts_peers.proofs.carrier.Carrier.carry.Goals as goal

pub returns-clause-reached : goal.returns-clause-reached
returns-clause-reached g c = reached_then g.S.Service.turn g.S.Service.keeps _ _ _ _ _ _
    (reached_then g.S.Service.turn g.S.Service.keeps _ _ _ _ _ _
    (reached_then g.S.Service.turn g.S.Service.keeps _ _ _ _ _ _ c.take_all.ensures.reached
    c.look.ensures.reached) c.follow.ensures.reached) c.catch_up.ensures.reached
