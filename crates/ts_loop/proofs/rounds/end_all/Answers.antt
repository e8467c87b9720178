-- Moves after moves.
use Rattle.ts_links.proofs.Reached.{quiet_then}
use Rattle.ts_loop.proofs.rounds.end_all.Goals as goal

pub loop-slot-preserved : goal.loop-slot-preserved
loop-slot-preserved g c = quiet_then _ _ _ c.loop-slot.invariant c.end_slot.ensures
