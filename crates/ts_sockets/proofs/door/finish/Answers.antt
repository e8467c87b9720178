-- Moves after moves.
use Rattle.ts_links.proofs.Reached.{quiet_then}
use Rattle.ts_sockets.proofs.door.finish.Goals as goal

pub returns : goal.returns
returns g c = quiet_then _ _ _ c.hand_on_rest-handed.ensures c.write_once.ensures

pub returns-then-not-write_once : goal.returns-then-not-write_once
returns-then-not-write_once g c = quiet_then _ _ _ c.hand_on_rest-handed.ensures c.write_once.ensures
