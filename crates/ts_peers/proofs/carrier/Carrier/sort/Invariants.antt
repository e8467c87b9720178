-- What came of the messages so far.
use Rattle.std.proofs.Common.{map}
use Rattle.ts_peers.proofs.Sorting.{SoFar}
use Rattle.ts_peers.proofs.carrier.Carrier.sort.Given as goal

abbrev pub invariant-loop-message : goal.invariant-loop-message
invariant-loop-message l = SoFar l.fn.given l.fn.now l.fn.self.lines.items l.self.lines.items l.fn.self.gate l.self.gate (map (λ frame. frame.items) l.own.items) l.message-iterator.rest.items
