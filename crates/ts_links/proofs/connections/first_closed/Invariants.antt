-- The slots so far are open.
use Rattle.ts_links.specs.Table.{AreOpen}
use Rattle.ts_links.proofs.connections.first_closed.Given as goal

abbrev pub invariant-loop-slot : goal.invariant-loop-slot
invariant-loop-slot l = AreOpen l.links l.slot
