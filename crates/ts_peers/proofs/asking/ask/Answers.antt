-- A connection is opened, its request is taken, and it is closed.
use Rattle.ts_links.proofs.Reached.{reached_quiet, reached_then, then_quiet}
use Rattle.ts_peers.proofs.asking.ask.Goals as goal

pub returns-clause-reached : goal.returns-clause-reached
returns-clause-reached g c = then_quiet g.S.Service.turn g.S.Service.keeps _ _ _ _ _
    (reached_then g.S.Service.turn g.S.Service.keeps _ _ _ _ _ _
    (reached_quiet g.S.Service.turn g.S.Service.keeps _ _ _ c.«open».ensures.quiet)
    c.ask_at-answer.ensures.reached) c.close-closed.ensures.quiet
