-- What a client's side of a connection does at a call.
use Rattle.std.specs.Prelude.{◌≡◌, ◌≢◌, ◌≤◌, ℕ, List, [], ◌++◌, drop, length, Bool, true, false}
use Rattle.std.specs.Prelude.{Option, Some, None, Result, Ok, Err}
use Rattle.std.specs.declared.vec.Vec.{Vec}
use Rattle.std.specs.declared.alloc.Global.{Global}
use Rattle.ts_guard.specs.Channels.{IsChannel, client_session}
use Rattle.ts_guard.specs.Hello.{IsHelloFault, IsPartHello, challenge_octets}
use Rattle.ts_guard.specs.Opening.{HasCome as Receives}
use Rattle.ts_guard.specs.declared.channel.Channel.{Channel}
use Rattle.ts_guard.specs.declared.fault.GuardFault.{GuardFault}
use Rattle.ts_guard.specs.declared.fault.GuardFault.TheVariants.{Memory}
use Rattle.ts_guard.specs.declared.greeter.Greeter.{Greeter}
use Rattle.ts_guard.specs.declared.session.Direction.TheVariants.{FromClient, FromServer}
use Rattle.ts_access.specs.Lines.{Holds, IsSealed, IsStill, LetsThrough}
use Rattle.ts_access.specs.declared.fault.EntranceFault.{EntranceFault}
use Rattle.ts_access.specs.declared.fault.EntranceFault.TheVariants as faults
use Rattle.ts_access.specs.declared.visitor.Visit.{Visit}
use Rattle.ts_access.specs.declared.visitor.Visit.TheVariants as visits
use Rattle.ts_access.specs.declared.visitor.Visitor.{Visitor}

-- the connection of a challenge that came
pub record IsJoined (secret : List ℕ) (greeter : Greeter) (channel : Channel) : Type 0 where
  pub challenge : List ℕ
  pub long : 38 ≤ length greeter.held
  pub is : greeter.held ≡ challenge_octets challenge ++ drop 38 greeter.held
  pub joins : IsChannel secret (client_session greeter challenge) FromServer FromClient
      (drop 38 greeter.held) channel

abbrev pub Answers : List ℕ → Greeter → Visit → Option (Vec ℕ Global) → Type 0
Answers secret greeter visit None = (visit ≡ visits.Waits greeter)
    × IsPartHello 34 0x40 greeter.held
Answers secret greeter visit (Some octets) = (octets.items ≡ []) × (channel : Channel)
    × (visit ≡ visits.Open channel) × IsJoined secret greeter channel

abbrev pub IsUnanswered : Greeter → EntranceFault → Type 0
IsUnanswered greeter (faults.Hello fault) = IsHelloFault 34 0x40 greeter.held fault
IsUnanswered greeter fault = ⊥

-- the next record was opened
abbrev pub OpensNext : Channel → Option (Vec ℕ Global) → Channel → Type 0
OpensNext old (Some content) new = LetsThrough old.opener content.items new.opener
    × (new.sealer ≡ old.sealer)
OpensNext old None new = IsStill old.opener new.opener × (new.sealer ≡ old.sealer)

abbrev pub OpensNone : Channel → EntranceFault → Type 0
OpensNone channel faults.Memory = Unit {0}
OpensNone channel (faults.Guard fault) = (fault ≢ Memory) × Holds channel.opener fault
OpensNone channel fault = ⊥

-- a step from one stage to another
abbrev pub Steps : List ℕ → Visit → Option (Vec ℕ Global) → Visit → Type 0
Steps secret (visits.Waits greeter) octets new = Answers secret greeter new octets
Steps secret (visits.Open channel) octets new = (after : Channel) × (new ≡ visits.Open after)
    × OpensNext channel octets after
Steps secret visits.Closed octets new = (octets ≡ None) × (new ≡ visits.Closed)

-- why there is none
abbrev pub Stops : Visit → EntranceFault → Type 0
Stops (visits.Waits greeter) fault = IsUnanswered greeter fault
Stops (visits.Open channel) fault = OpensNone channel fault
Stops visits.Closed fault = ⊥

-- what a call of `take` does
abbrev pub Takes : Visitor → Result (Option (Vec ℕ Global)) EntranceFault → Visitor → Type 0
Takes old (Ok octets) new = Steps old.secret old.visit octets new.visit
Takes old (Err fault) new = Stops old.visit fault × (new.visit ≡ visits.Closed)

-- it is the same connection
pub record IsSame (old new : Visitor) : Type 0 where
  pub greeting : new.greeting ≡ old.greeting
  pub secret : new.secret ≡ old.secret

-- how many octets are held
abbrev pub held_in : Visit → ℕ
held_in (visits.Waits greeter) = length greeter.held
held_in (visits.Open channel) = length channel.opener.held
held_in visits.Closed = 0

-- a piece came; where nothing is let through any more it is dropped
abbrev pub HasCome : Visit → List ℕ → Visit → Type 0
HasCome (visits.Waits old) piece visit = (new : Greeter) × (visit ≡ visits.Waits new)
    × (new.held ≡ old.held ++ piece) × (new.greeting ≡ old.greeting)
HasCome (visits.Open old) piece visit = (new : Channel) × (visit ≡ visits.Open new)
    × Receives old.opener piece new.opener × (new.sealer ≡ old.sealer)
HasCome visits.Closed piece visit = visit ≡ visits.Closed

-- whether the challenge came
abbrev pub has_begun : Visit → Bool
has_begun (visits.Open channel) = true
has_begun visit = false

-- a record of it was sealed, and nothing else changed
abbrev pub SealsNext : Channel → List ℕ → List ℕ → Result Bool GuardFault → Channel → List ℕ
    → Type 0
SealsNext old octets before result new after = (new.opener ≡ old.opener)
    × IsSealed old.sealer octets before result new.sealer after

-- what a call of `seal` does; without a challenge nothing
abbrev pub SealsIn : Visit → List ℕ → List ℕ → Result Bool GuardFault → Visit → List ℕ → Type 0
SealsIn (visits.Open old) octets before result visit after = (new : Channel)
    × (visit ≡ visits.Open new) × SealsNext old octets before result new after
SealsIn old octets before result visit after = (result ≡ Ok false) × (visit ≡ old)
    × (after ≡ before)
