-- A read and some turns.
use Rattle.ts_links.proofs.Reached.{reached_quiet, reached_then}
use Rattle.ts_loop.proofs.pumping.begin.Goals as goal

pub returns-clause-reached : goal.returns-clause-reached
returns-clause-reached g c = reached_then g.S.Service.turn g.S.Service.keeps _ _ _ _ _ _ (reached_quiet g.S.Service.turn g.S.Service.keeps _ _ _ c.read_once.ensures) c.take_turns-taken.ensures.reached
