-- The turns so far, and one more.
use Rattle.ts_links.proofs.Reached.{reached_then}
use Rattle.ts_loop.proofs.web_door.take_turns.Goals as goal

pub loop-turns-preserved : goal.loop-turns-preserved
loop-turns-preserved g c = record {
  reached = reached_then g.S.Service.turn g.S.Service.keeps _ _ _ _ _ _ c.loop-turns.invariant.reached c.turn.ensures.reached;
  ready = c.turn.ensures.ready;
}

pub returns-in-Nothing-clause-reached : goal.returns-in-Nothing-clause-reached
returns-in-Nothing-clause-reached g c = reached_then g.S.Service.turn g.S.Service.keeps _ _ _ _ _ _ c.loop-turns.invariant.reached c.turn.ensures.reached

pub returns-in-Failed-clause-reached : goal.returns-in-Failed-clause-reached
returns-in-Failed-clause-reached g c = reached_then g.S.Service.turn g.S.Service.keeps _ _ _ _ _ _ c.loop-turns.invariant.reached c.turn.ensures.reached
