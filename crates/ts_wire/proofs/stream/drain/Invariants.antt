use Rattle.std.proofs.Common.{length}
use Rattle.ts_wire.proofs.Draining.{Taken}
use Rattle.ts_wire.proofs.stream.drain.Given as goal

abbrev pub invariant-loop-frame : goal.invariant-loop-frame
invariant-loop-frame l = Taken l.fn.feed l.fn.frames.items l.feed l.frames.items

abbrev pub decreases-loop-frame : goal.decreases-loop-frame
decreases-loop-frame l = length l.feed
