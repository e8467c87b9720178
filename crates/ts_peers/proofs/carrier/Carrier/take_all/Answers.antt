-- What was taken so far, and once more.
use Rattle.ts_links.proofs.Reached.{reached_then}
use Rattle.ts_peers.proofs.carrier.Carrier.take_all.Goals as goal

pub returns-then-not-take_once-clause-reached : goal.returns-then-not-take_once-clause-reached
returns-then-not-take_once-clause-reached g c = reached_then g.S.Service.turn g.S.Service.keeps _ _ _ _ _ _ c.loop-step.invariant.reached c.take_once.ensures.reached

pub loop-step-preserved : goal.loop-step-preserved
loop-step-preserved g c = record {
  reached = reached_then g.S.Service.turn g.S.Service.keeps _ _ _ _ _ _ c.loop-step.invariant.reached c.take_once.ensures.reached;
  ready = c.take_once.ensures.ready;
}
