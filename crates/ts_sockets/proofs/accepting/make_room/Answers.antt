-- Moves after moves.
use Rattle.ts_links.proofs.Reached.{quiet_then}
use Rattle.ts_sockets.proofs.accepting.make_room.Goals as goal

pub returns : goal.returns
returns c = quiet_then _ _ _ c.close-closed.ensures.quiet c.open.ensures.quiet
