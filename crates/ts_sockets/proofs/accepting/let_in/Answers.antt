-- Moves after moves.
use Rattle.ts_links.proofs.Reached.{quiet_then}
use Rattle.ts_sockets.proofs.accepting.let_in.Goals as goal

pub returns : goal.returns
returns g c = quiet_then _ _ _ c.find_slot.ensures c.close-closed.ensures.quiet
