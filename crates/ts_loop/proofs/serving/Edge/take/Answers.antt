-- What is asked, what is carried, and what is asked over HTTP.
use Rattle.ts_links.proofs.Reached.{reached_then}
use Rattle.ts_loop.proofs.serving.Edge.take.Goals as goal

pub returns-clause-reached : goal.returns-clause-reached
returns-clause-reached g c = reached_then g.S.Service.turn g.S.Service.keeps _ _ _ _ _ _
    (reached_then g.S.Service.turn g.S.Service.keeps _ _ _ _ _ _ c.begin_all.ensures.reached
    c.carry.ensures.reached) c.take_web.ensures.reached
