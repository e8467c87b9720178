-- Each peer can still be asked.
use Rattle.std.specs.Prelude.{All}
use Rattle.ts_serve.proofs.carrying.carry.Given as goal

abbrev pub invariant-loop-round : goal.invariant-loop-round
invariant-loop-round g l = All (g.P.Peer.is_ready) l.peers
