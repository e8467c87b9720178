-- What came is taken.
use Rattle.ts_links.proofs.Reached.{reached_quiet, reached_then}
use Rattle.ts_peers.proofs.asking.ask_at.Goals as goal

pub returns-clause-reached : goal.returns-clause-reached
returns-clause-reached g c = reached_then g.S.Service.turn g.S.Service.keeps _ _ _ _ _ _
    (reached_quiet g.S.Service.turn g.S.Service.keeps _ _ _ c.arrive-came.ensures.quiet)
    c.take_some-taken.ensures.reached

pub returns-then-not-came-clause-reached : goal.returns-then-not-came-clause-reached
returns-then-not-came-clause-reached g c =
    reached_then g.S.Service.turn g.S.Service.keeps _ _ _ _ _ _
    (reached_quiet g.S.Service.turn g.S.Service.keeps _ _ _ c.arrive-came.ensures.quiet)
    c.take_some-taken.ensures.reached
