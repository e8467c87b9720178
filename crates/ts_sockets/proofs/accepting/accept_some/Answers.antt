-- Moves after moves.
use Rattle.ts_links.proofs.Reached.{quiet_then}
use Rattle.ts_sockets.proofs.accepting.accept_some.Goals as goal

pub loop-accept-preserved : goal.loop-accept-preserved
loop-accept-preserved g c = quiet_then _ _ _ c.loop-accept.invariant c.let_in.ensures
