-- The frames that were taken are the front of the octets.
use Rattle.std.proofs.Common.{length, []}
use Rattle.ts_wire.proofs.Draining.{Taken}
use Rattle.ts_serve.proofs.carrying.frames_of.Given as goal

abbrev pub invariant-loop-feed : goal.invariant-loop-feed
invariant-loop-feed l = Taken l.octets [] l.feed l.frames.items

abbrev pub decreases-loop-feed : goal.decreases-loop-feed
decreases-loop-feed l = length l.feed
