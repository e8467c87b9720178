-- Moves after moves.
use Rattle.ts_links.proofs.Reached.{quiet_then}
use Rattle.ts_loop.proofs.rounds.sweep.Goals as goal

pub loop-slot-preserved : goal.loop-slot-preserved
loop-slot-preserved c = quiet_then _ _ _ c.loop-slot.invariant c.sweep_slot.ensures
