-- The slots so far, and one more.
use Rattle.ts_links.proofs.Reached.{reached_then}
use Rattle.ts_loop.proofs.rounds.begin_all.Goals as goal

pub loop-step-preserved : goal.loop-step-preserved
loop-step-preserved g c = record {
  reached = reached_then g.S.Service.turn g.S.Service.keeps _ _ _ _ _ _ c.loop-step.invariant.reached c.begin_slot.ensures.reached;
  ready = c.begin_slot.ensures.ready;
}
