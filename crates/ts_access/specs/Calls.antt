-- Calls on a server's side of a connection, in any order.
use Rattle.std.specs.Prelude.{◌≡◌, ℕ, List, [], ◌∷◌, ◌++◌, Bool, Option, Result}
use Rattle.std.specs.declared.vec.Vec.{Vec}
use Rattle.std.specs.declared.alloc.Global.{Global}
use Rattle.ts_guard.specs.declared.fault.GuardFault.{GuardFault}
use Rattle.ts_access.specs.Entering.{HasCome, IsSame, SealsIn, Takes}
use Rattle.ts_access.specs.Sifting.{handed_by}
use Rattle.ts_access.specs.declared.entrance.Entrance.{Entrance}
use Rattle.ts_access.specs.declared.fault.EntranceFault.{EntranceFault}
use Rattle.ts_access.specs.declared.key.Key.{Key}

pub data Call : Type 0 where
  Pushed : (piece : List ℕ) → Call  -- these octets came
  Took : (result : Result (Option (Vec ℕ Global)) EntranceFault) → Call  -- `take` answered so
  Sealed : (octets before after : List ℕ) → (result : Result Bool GuardFault) → Call  -- `seal`

abbrev pub Makes : List Key → Entrance → Call → Entrance → Type 0
Makes keys a (Pushed piece) b = IsSame a b × HasCome a.stage piece b.stage
Makes keys a (Took result) b = IsSame a b × Takes keys a result b
Makes keys a (Sealed octets before after result) b = IsSame a b
    × SealsIn a.stage octets before result b.stage after

-- calls, one after another
abbrev pub Calls : List Key → Entrance → List Call → Entrance → Type 0
Calls keys a [] b = b ≡ a
Calls keys a (call ∷ calls) b = (mid : Entrance) × Makes keys a call mid × Calls keys mid calls b

-- all that came, and all that was handed on
abbrev pub came_in : List Call → List ℕ
came_in [] = []
came_in (Pushed piece ∷ calls) = piece ++ came_in calls
came_in (call ∷ calls) = came_in calls

abbrev pub handed_in : List Call → List ℕ
handed_in [] = []
handed_in (Took result ∷ calls) = handed_by result ++ handed_in calls
handed_in (call ∷ calls) = handed_in calls
