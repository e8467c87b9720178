-- Each peer can still be asked.
use Rattle.std.specs.Prelude.{All}
use Rattle.ts_serve.proofs.carrying.carry_once.Given as goal

abbrev pub invariant-loop-message : goal.invariant-loop-message
invariant-loop-message g l = All (g.P.Peer.is_ready) l.peers
