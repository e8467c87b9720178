-- The slots so far are unused.
use Rattle.std.proofs.Common.{◌≡◌, All, length}
use Rattle.ts_links.specs.Moves.{IsUnused}
use Rattle.ts_links.proofs.connections.Connections.new.Given as goal

abbrev pub invariant-loop-slot : goal.invariant-loop-slot
invariant-loop-slot l = record { unused : All IsUnused l.links.items; count : length l.links.items ≡ l._slot }
