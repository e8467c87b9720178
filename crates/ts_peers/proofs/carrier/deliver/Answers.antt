-- The messages so far, and one more.
use Rattle.ts_links.proofs.Reached.{reached_then}
use Rattle.ts_peers.proofs.carrier.deliver.Goals as goal

pub loop-frame-preserved : goal.loop-frame-preserved
loop-frame-preserved g c = record {
  reached = reached_then g.S.Service.turn g.S.Service.keeps _ _ _ _ _ _ c.loop-frame.invariant.reached c.ask-answer.ensures.reached;
  ready = c.ask-answer.ensures.ready;
}
