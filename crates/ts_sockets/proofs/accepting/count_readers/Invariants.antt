-- Those that were counted, and those that are left.
use Rattle.std.proofs.Common.{◌≡◌, ◌+◌, ◌≤◌, drop, length}
use Rattle.std.specs.Prelude.{filter}
use Rattle.ts_sockets.specs.Rooms.{is_reader}
use Rattle.ts_sockets.proofs.accepting.count_readers.Given as goal

abbrev pub invariant-loop-place : goal.invariant-loop-place
invariant-loop-place l = (l.count + length (filter is_reader (drop l.place-index l.doors)) ≡ length (filter is_reader l.fn.doors))
    × (l.count ≤ l.place-index)
