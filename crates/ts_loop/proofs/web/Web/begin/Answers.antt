-- The slots so far, and one more.
use Rattle.ts_links.proofs.Reached.{reached_then}
use Rattle.ts_loop.proofs.web.Web.begin.Goals as goal

pub loop-slot-preserved : goal.loop-slot-preserved
loop-slot-preserved g c = record {
  reached = reached_then g.S.Service.turn g.S.Service.keeps _ _ _ _ _ _ c.loop-slot.invariant.reached c.begin_slot.ensures.reached;
  ready = c.begin_slot.ensures.ready;
}
