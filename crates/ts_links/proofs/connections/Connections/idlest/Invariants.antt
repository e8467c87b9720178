-- The one that has been idle longest so far.
use Rattle.ts_links.specs.Table.{IsIdlest}
use Rattle.ts_links.proofs.connections.Connections.idlest.Given as goal

abbrev pub invariant-loop-slot : goal.invariant-loop-slot
invariant-loop-slot l = IsIdlest l.self.links.items l.slot l.found
