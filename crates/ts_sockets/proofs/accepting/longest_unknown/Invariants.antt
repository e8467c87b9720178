-- What is found in the slots so far.
use Rattle.std.proofs.Common.{map}
use Rattle.ts_sockets.specs.Rooms.{unknown_at}
use Rattle.ts_sockets.proofs.Finding.{Earlier, IsFound}
use Rattle.ts_sockets.proofs.accepting.longest_unknown.Given as goal

abbrev pub invariant-loop-slot : goal.invariant-loop-slot
invariant-loop-slot l = IsFound Earlier (map unknown_at l.fn.doors) l.slot l.found
