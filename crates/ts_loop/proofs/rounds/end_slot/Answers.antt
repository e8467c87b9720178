-- Moves after moves.
use Rattle.ts_links.proofs.Reached.{quiet_then}
use Rattle.ts_loop.proofs.rounds.end_slot.Goals as goal

pub returns : goal.returns
returns g c = quiet_then _ _ _ c.end-pumped.ensures c.settle.ensures
