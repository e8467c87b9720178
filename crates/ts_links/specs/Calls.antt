-- What calls on the table of connections come to.
use Rattle.std.specs.Prelude.{◌≡◌, ◌≤◌, ℕ, Bool, true, false, List, Ok, Err, length}
use Rattle.ts_wire.specs.declared.frame.Frame.{Frame}
use Rattle.ts_links.specs.declared.connections.ArriveFault.{ArriveFault}
use Rattle.ts_links.specs.declared.connections.Connections.{Connections}
use Rattle.ts_links.specs.Events.{Change, Quiet, event}
use Rattle.ts_links.specs.Moves.{Closed}
use Rattle.ts_links.specs.Table.{ArriveGives}
use Rattle.ts_links.specs.Turns.{IsReached}

-- moves that take no request lead from one table to the other
abbrev pub IsQuiet : Connections → Connections → Type 0
IsQuiet old new = Quiet old.links.items new.links.items

-- octets came on a slot's connection; or it takes none, or memory was refused
abbrev pub HasArrived : Connections → ℕ → List ℕ → ℕ → Bool → Connections → Type 0
HasArrived old slot piece now true new =
    ArriveGives old.links.items slot piece now (Ok tt) new.links.items
HasArrived old slot piece now false new = (fault : ArriveFault)
    × ArriveGives old.links.items slot piece now (Err fault) new.links.items

-- a slot's connection has ended; or there is no such slot
abbrev pub HasClosed : Connections → ℕ → Bool → Connections → Type 0
HasClosed old slot true new =
    (now : ℕ) → Change old.links.items (event slot now Closed) new.links.items
HasClosed old slot false new = (new.links.items ≡ old.links.items)
    × (length old.links.items ≤ slot)

-- moves lead from one table to the other, and what they take is answered by turns, between which it
-- may try to keep what was there
abbrev pub HasReached : {S : Type 0} → (S → Frame → List Frame → S → Type 0)
    → (S → S → Type 0) → S → Connections → S → Connections → Type 0
HasReached turn keeps s old t new = IsReached turn keeps s old.links.items t new.links.items
