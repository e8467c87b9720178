-- What is found in the slots so far.
use Rattle.std.proofs.Common.{map}
use Rattle.ts_sockets.specs.Rooms.{reader_at}
use Rattle.ts_sockets.proofs.Finding.{Later, IsFound}
use Rattle.ts_sockets.proofs.accepting.latest_reader.Given as goal

abbrev pub invariant-loop-slot : goal.invariant-loop-slot
invariant-loop-slot l = IsFound Later (map reader_at l.fn.doors) l.slot l.found
