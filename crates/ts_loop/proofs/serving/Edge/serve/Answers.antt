-- The rounds so far, and one more.
use Rattle.ts_links.proofs.Reached.{reached_then}
use Rattle.ts_loop.proofs.serving.Edge.serve.Goals as goal

pub loop-round-preserved : goal.loop-round-preserved
loop-round-preserved g c = record {
  reached = reached_then g.S.Service.turn g.S.Service.keeps _ _ _ _ _ _ c.loop-round.invariant.reached c.round.ensures.reached;
  ready = c.round.ensures.ready;
}

pub returns-in_err-round-clause-reached : goal.returns-in_err-round-clause-reached
returns-in_err-round-clause-reached g c = reached_then g.S.Service.turn g.S.Service.keeps _ _ _ _ _ _ c.loop-round.invariant.reached c.round.ensures.reached

pub returns-then-over-limits-clause-reached : goal.returns-then-over-limits-clause-reached
returns-then-over-limits-clause-reached g c = reached_then g.S.Service.turn g.S.Service.keeps _ _ _ _ _ _ c.loop-round.invariant.reached c.round.ensures.reached
