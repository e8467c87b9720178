-- The turns so far, and one more.
use Rattle.ts_links.proofs.Reached.{reached_then}
use Rattle.ts_loop.proofs.pumping.take_turns.Goals as goal

pub loop-turns-preserved : goal.loop-turns-preserved
loop-turns-preserved g c = record {
  reached = reached_then g.S.Service.turn g.S.Service.keeps _ _ _ _ _ _ c.loop-turns.invariant.reached c.take_one-taken.ensures.reached;
  ready = c.take_one-taken.ensures.ready;
}

pub returns-then-taken-eq0-clause-reached : goal.returns-then-taken-eq0-clause-reached
returns-then-taken-eq0-clause-reached g c = reached_then g.S.Service.turn g.S.Service.keeps _ _ _ _ _ _ c.loop-turns.invariant.reached c.take_one-taken.ensures.reached
