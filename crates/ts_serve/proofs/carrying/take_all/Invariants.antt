-- Each peer can still be asked.
use Rattle.std.specs.Prelude.{All}
use Rattle.ts_serve.proofs.carrying.take_all.Given as goal

abbrev pub invariant-loop-place : goal.invariant-loop-place
invariant-loop-place g l = All (g.P.Peer.is_ready) l.peers
