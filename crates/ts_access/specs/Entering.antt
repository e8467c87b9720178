-- What a server's side of a connection does at a call.
use Rattle.std.specs.Prelude.{◌≡◌, ◌≤◌, ◌+◌, ℕ, List, [], ◌++◌, drop, length, Bool, true, false}
use Rattle.std.specs.Prelude.{Option, Some, None, Result, Ok, Err}
use Rattle.std.specs.declared.vec.Vec.{Vec}
use Rattle.std.specs.declared.alloc.Global.{Global}
use Rattle.ts_guard.specs.Channels.{IsChannel, server_session}
use Rattle.ts_guard.specs.Hello.{IsHelloFault, IsPartHello, greeting_octets}
use Rattle.ts_guard.specs.declared.challenger.Challenger.{Challenger}
use Rattle.ts_guard.specs.declared.hello.Greeting.{Greeting}
use Rattle.ts_guard.specs.declared.session.Direction.TheVariants.{FromClient, FromServer}
use Rattle.ts_guard.specs.Opening.{HasCome as Receives}
use Rattle.ts_guard.specs.declared.fault.GuardFault.{GuardFault}
use Rattle.ts_access.specs.Keys.{key_found}
use Rattle.ts_access.specs.Lines.{EndsBy, GoesOn, SealsOn}
use Rattle.ts_access.specs.Sifted.{IsSieve}
use Rattle.ts_access.specs.declared.entrance.Entrance.{Entrance}
use Rattle.ts_access.specs.declared.entrance.Stage.{Stage}
use Rattle.ts_access.specs.declared.entrance.Stage.TheVariants as stages
use Rattle.ts_access.specs.declared.fault.EntranceFault.{EntranceFault}
use Rattle.ts_access.specs.declared.fault.EntranceFault.TheVariants as faults
use Rattle.ts_access.specs.declared.key.Key.{Key}
use Rattle.ts_access.specs.declared.key.Role.{Role}
use Rattle.ts_access.specs.declared.line.Line.{Line}

-- what came begins with this greeting
pub record IsGreeted (challenger : Challenger) (greeting : Greeting) : Type 0 where
  pub long : 42 ≤ length challenger.held
  pub is : challenger.held
      ≡ greeting_octets greeting.key_id greeting.nonce ++ drop 42 challenger.held

-- the connection of the key that the greeting names
pub record IsBegun (node : ℕ) (keys : List Key) (challenger : Challenger) (line : Line)
    : Type 0 where
  pub greeting : Greeting
  pub key : Key
  pub greets : IsGreeted challenger greeting
  pub found : key_found keys greeting.key_id ≡ Some key
  pub channel : IsChannel key.secret (server_session challenger greeting) FromClient FromServer
      (drop 42 challenger.held) line.channel
  pub sieve : IsSieve line.sieve [] []
  pub role : line.sieve.role ≡ key.role
  pub node_is : line.sieve.node ≡ node

abbrev pub Greets : ℕ → List Key → Challenger → Stage → Option (Vec ℕ Global) → Type 0
Greets node keys challenger stage None = (stage ≡ stages.Waits challenger)
    × IsPartHello 38 0x41 challenger.held
Greets node keys challenger stage (Some octets) = (octets.items ≡ []) × (line : Line)
    × (stage ≡ stages.Open line) × IsBegun node keys challenger line

-- why there is no connection
abbrev pub IsUngreeted : List Key → Challenger → EntranceFault → Type 0
IsUngreeted keys challenger (faults.Hello fault) = IsHelloFault 38 0x41 challenger.held fault
IsUngreeted keys challenger faults.UnknownKey = (greeting : Greeting)
    × IsGreeted challenger greeting × (key_found keys greeting.key_id ≡ None)
IsUngreeted keys challenger fault = ⊥

-- a step from one stage to another
abbrev pub Steps : ℕ → List Key → Stage → Option (Vec ℕ Global) → Stage → Type 0
Steps node keys (stages.Waits challenger) octets new = Greets node keys challenger new octets
Steps node keys (stages.Open line) octets new = (after : Line) × (new ≡ stages.Open after)
    × GoesOn line octets after
Steps node keys stages.Closed octets new = (octets ≡ None) × (new ≡ stages.Closed)

-- why there is none
abbrev pub Stops : List Key → Stage → EntranceFault → Type 0
Stops keys (stages.Waits challenger) fault = IsUngreeted keys challenger fault
Stops keys (stages.Open line) fault = EndsBy line fault
Stops keys stages.Closed fault = ⊥

-- what a call of `take` does
abbrev pub Takes : List Key → Entrance → Result (Option (Vec ℕ Global)) EntranceFault → Entrance
    → Type 0
Takes keys old (Ok octets) new = Steps old.node keys old.stage octets new.stage
Takes keys old (Err fault) new = Stops keys old.stage fault × (new.stage ≡ stages.Closed)

-- it is the same connection
pub record IsSame (old new : Entrance) : Type 0 where
  pub node : new.node ≡ old.node
  pub challenge : new.challenge ≡ old.challenge

-- the role of the key that was found
abbrev pub role_in : Stage → Option Role
role_in (stages.Open line) = Some line.sieve.role
role_in stage = None

-- how many octets are held
abbrev pub held_in : Stage → ℕ
held_in (stages.Waits challenger) = length challenger.held
held_in (stages.Open line) = length line.channel.opener.held + length line.sieve.held
held_in stages.Closed = 0

-- a piece came; where nothing is let through any more it is dropped
abbrev pub HasCome : Stage → List ℕ → Stage → Type 0
HasCome (stages.Waits old) piece stage = (new : Challenger) × (stage ≡ stages.Waits new)
    × (new.held ≡ old.held ++ piece) × (new.challenge ≡ old.challenge)
HasCome (stages.Open old) piece stage = (new : Line) × (stage ≡ stages.Open new)
    × Receives old.channel.opener piece new.channel.opener
    × (new.channel.sealer ≡ old.channel.sealer) × (new.sieve ≡ old.sieve)
HasCome stages.Closed piece stage = stage ≡ stages.Closed

-- whether the key was found
abbrev pub has_begun : Stage → Bool
has_begun (stages.Open line) = true
has_begun stage = false

-- what a call of `seal` does; without a key nothing
abbrev pub SealsIn : Stage → List ℕ → List ℕ → Result Bool GuardFault → Stage → List ℕ → Type 0
SealsIn (stages.Open old) octets before result stage after = (new : Line)
    × (stage ≡ stages.Open new) × SealsOn old octets before result new after
SealsIn old octets before result stage after = (result ≡ Ok false) × (stage ≡ old)
    × (after ≡ before)
