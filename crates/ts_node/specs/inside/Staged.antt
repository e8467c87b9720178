-- A turn while it is made in memory: what it has come to so far, and what it comes to.
use Rattle.std.proofs.Common.{◌≡◌, ◌≤◌, ◌+◌, ◌++◌, ℕ, List, length, slice_get, Some, Result, Ok}
use Rattle.std.proofs.Common.{Err, true, false}
use Rattle.std.specs.Prelude.{OnOk, IfErr, IsErrOf}
use Rattle.ts_disk.specs.Disk.{State}
use Rattle.ts_synod.specs.declared.message.Fact.{Fact}
use Rattle.ts_synod.specs.declared.message.Message.{Message}
use Rattle.ts_synod.specs.Config.{Config}
use Rattle.ts_synod.specs.Laws.{node_with}
use Rattle.ts_synod.specs.Node as world
use Rattle.ts_synod.specs.Node.{step}
use Rattle.ts_synod.specs.Store.{Store}
use Rattle.ts_synod.specs.Turn.{turn}
use Rattle.ts_record.specs.Facts.{AllFit, encodings}
use Rattle.ts_synod.specs.declared.fault.NodeFault.{NodeFault}
use Rattle.ts_synod.specs.declared.fault.NodeFault.TheVariants as faults
use Rattle.ts_node.specs.declared.input.Output.{Output}
use Rattle.ts_node.specs.declared.input.Reply.{Reply}
use Rattle.ts_node.specs.declared.node.Node.{Node}
use Rattle.ts_node.specs.declared.plan.Plan.{Plan}
use Rattle.ts_node.specs.declared.turn.Turn.{Turn}
use Rattle.ts_node.specs.declared.roles.Roles.{Roles}
use Rattle.ts_node.specs.Node.{HasFailed, IsSame, Moments, config, facts, volatile}
use Rattle.ts_node.specs.Roles.{StandFor, config_of, volatile_of}
use Rattle.ts_node.specs.inside.Roles.{Makes}
use Rattle.ts_node.specs.Turn.{Ends, EndsBehind, given_out, has_own, inputs_of}

-- facts that a record can keep at once together with others, of which there are so many octets
abbrev pub FitBehind : {C : Type 0} → (C → List ℕ) → ℕ → List (Fact C) → Type 0
FitBehind octets before facts =
    AllFit octets facts × (before + length (encodings octets facts) ≤ 4194500)

-- its facts can be kept at once together with those before them, and so long are their encodings;
-- and it looked at no more messages than there are
pub record IsHeld {C : Type 0} (octets : C → List ℕ) (turn : Turn C) : Type 0 where
  pub fit : AllFit octets turn.facts.items
  pub size : turn.size ≡ turn.before + length (encodings octets turn.facts.items)
  pub short : turn.size ≤ 4194500
  pub looked : turn.looked ≤ length turn.messages.items

-- A turn of the world's node, at some facts and some messages that were sent before, has come to
-- this; and the roles are those of the node then.
pub record IsSoFar {C O Q : Type 0} (store : Store C O (List C) Q (List C)) (config : Config)
    (kept : List (Fact C)) (volatile : world.Volatile C) (sent : List (Message C))
    (event : world.Input C Q) (roles : Roles C) (turn_now : Turn C) : Type 0 where
  pub stand : StandFor roles (kept ++ turn_now.facts.items)
  pub same : config_of roles ≡ config
  pub effect : (turn store config (node_with kept volatile) sent
      (inputs_of config.me sent event turn_now.looked turn_now.messages.items)).effect
      ≡ record {
        facts = turn_now.facts.items;
        messages = turn_now.messages.items;
        volatile = volatile_of roles;
      }

-- there is no room for the facts that the next message would add
pub record IsFull {C O Q : Type 0} (octets : C → List ℕ) (store : Store C O (List C) Q (List C))
    (config : Config) (kept : List (Fact C)) (sent : List (Message C))
    (roles : Roles C) (turn_now : Turn C) : Type 0 where
  pub message : Message C
  pub is : slice_get turn_now.messages.items turn_now.looked ≡ Some message
  pub full : FitBehind octets turn_now.before (turn_now.facts.items
      ++ (world.on_message store config (kept ++ turn_now.facts.items) (volatile_of roles)
      message).facts) → ⊥

-- a turn is made in memory: these facts are behind those before, and so are given out of these
-- messages; or memory was refused, before anything was changed or after
abbrev pub Stages : {D C M O A : Type 0} → Node D C M → Reply O A → ℕ → List (Message C)
    → List (Fact C) → world.Volatile C → List (Fact C) → Result (Output C O A) NodeFault
    → List (Fact C) → Node D C M → Type 0
Stages old reply looked made more then' before (Ok output) after new =
    (after ≡ before ++ more) × (volatile new ≡ then') × (output.reply ≡ reply)
    × (output.messages.items ≡ given_out (config old).me looked made)
Stages old reply looked made more then' before (Err faults.Memory) after new =
    (after ≡ before) × IsSame old new
Stages old reply looked made more then' before (Err faults.Broken) after new = new.ahead ≡ true
Stages old reply looked made more then' before (Err faults.DiskFailed) after new = ⊥
Stages old reply looked made more then' before (Err faults.RoundsExhausted) after new = ⊥
Stages old reply looked made more then' before (Err faults.PositionsExhausted) after new = ⊥
Stages old reply looked made more then' before (Err faults.GenerationsExhausted) after new = ⊥

-- A turn comes to an end: these facts are kept, and what is given out of these messages; or the
-- node is broken; or memory was refused before anything was changed.
abbrev pub Comes : {D C M O A : Type 0} → (D → State) → Node D C M → Reply O A → ℕ
    → List (Message C) → List (Fact C) → world.Volatile C → Result (Output C O A) NodeFault
    → Node D C M → Type 0
Comes state old reply looked made more then' (Ok output) new = (facts new ≡ facts old ++ more)
    × (volatile new ≡ then') × (output.reply ≡ reply)
    × (output.messages.items ≡ given_out (config old).me looked made)
Comes state old reply looked made more then' (Err faults.Broken) new =
    (new.ahead ≡ true) × (new.kept ≡ old.kept)
Comes state old reply looked made more then' (Err faults.DiskFailed) new =
    (new.kept.broken ≡ true) × HasFailed state old new
Comes state old reply looked made more then' (Err faults.Memory) new = IsSame old new
Comes state old reply looked made more then' (Err faults.RoundsExhausted) new = ⊥
Comes state old reply looked made more then' (Err faults.PositionsExhausted) new = ⊥
Comes state old reply looked made more then' (Err faults.GenerationsExhausted) new = ⊥

-- what a turn that begins with a plan comes to
pub record HasCome {D C M O Q A : Type 0} (state : D → State) (octets : C → List ℕ)
    (store : Store C O (List C) Q (List C)) (old : Node D C M) (plan : Plan C) (reply : Reply O A)
    (result : Result (Output C O A) NodeFault) (new : Node D C M) : Type 0 where
  pub looked : ℕ
  pub made : List (Message C)
  pub more : List (Fact C)
  pub then' : world.Volatile C
  -- they are those of the turn of the world's node, at any facts that the roles stand for, and
  -- after any event that the plan is of
  pub so : (kept : List (Fact C)) (sent : List (Message C)) (event : world.Input C Q)
      → StandFor old.roles kept → Makes old.roles plan
      (step store (config old) (node_with kept (volatile old)) sent event).effect
      → (turn store (config old) (node_with kept (volatile old)) sent
      (inputs_of (config old).me sent event looked made)).effect
      ≡ record { facts = more; messages = made; volatile = then' }
  pub comes : Comes state old reply looked made more then' result new
  pub few : looked ≤ 64
  -- a plan without a message to the node itself is kept alone, and leaves the roles behind the
  -- record
  pub alone : has_own (config old).me plan.messages.items ≡ false
      → (looked ≡ 0) × (IsErrOf result faults.Broken → ⊥)
  pub moments : Moments state octets old more new
  pub ends : OnOk result ((kept : List (Fact C)) (sent : List (Message C))
      (event : world.Input C Q) → StandFor old.roles kept → Makes old.roles plan
      (step store (config old) (node_with kept (volatile old)) sent event).effect
      → Ends octets store (config old) kept sent looked made (turn store (config old)
      (node_with kept (volatile old)) sent (inputs_of (config old).me sent event looked made)))

-- what a turn that begins with a plan comes to in memory, behind facts that were made before it
pub record HasBegun {D C M O Q A : Type 0} (octets : C → List ℕ)
    (store : Store C O (List C) Q (List C)) (old : Node D C M) (plan : Plan C) (reply : Reply O A)
    (before : List (Fact C)) (result : Result (Output C O A) NodeFault) (after : List (Fact C))
    (new : Node D C M) : Type 0 where
  pub looked : ℕ
  pub made : List (Message C)
  pub more : List (Fact C)
  pub then' : world.Volatile C
  pub so : (kept : List (Fact C)) (sent : List (Message C)) (event : world.Input C Q)
      → StandFor old.roles kept → Makes old.roles plan
      (step store (config old) (node_with kept (volatile old)) sent event).effect
      → (turn store (config old) (node_with kept (volatile old)) sent
      (inputs_of (config old).me sent event looked made)).effect
      ≡ record { facts = more; messages = made; volatile = then' }
  pub comes : Stages old reply looked made more then' before result after new
  pub few : looked ≤ 64
  pub ends : OnOk result ((kept : List (Fact C)) (sent : List (Message C))
      (event : world.Input C Q) → StandFor old.roles kept → Makes old.roles plan
      (step store (config old) (node_with kept (volatile old)) sent event).effect
      → EndsBehind octets store before (config old) kept sent looked made (turn store (config old)
      (node_with kept (volatile old)) sent (inputs_of (config old).me sent event looked made)))

-- What a turn whose first step is made comes to in memory: it goes on to these messages and facts,
-- whatever the world's turn was that had come so far; and it ends.
pub record HasRest {D C M O Q A : Type 0} (octets : C → List ℕ)
    (store : Store C O (List C) Q (List C)) (old : Node D C M) (first : Turn C) (reply : Reply O A)
    (before : List (Fact C)) (result : Result (Output C O A) NodeFault) (after : List (Fact C))
    (new : Node D C M) : Type 0 where
  pub looked : ℕ
  pub made : List (Message C)
  pub more : List (Fact C)
  pub then' : world.Volatile C
  pub so : (k : Config) (kept : List (Fact C)) (v : world.Volatile C) (sent : List (Message C))
      (event : world.Input C Q) → IsSoFar store k kept v sent event old.roles first
      → (turn store k (node_with kept v) sent (inputs_of k.me sent event looked made)).effect
      ≡ record { facts = more; messages = made; volatile = then' }
  pub comes : Stages old reply looked made more then' before result after new
  pub only : IfErr result (λ fault. fault ≡ faults.Broken)
  pub few : looked ≤ 64
  pub ends : OnOk result ((k : Config) (kept : List (Fact C)) (v : world.Volatile C)
      (sent : List (Message C)) (event : world.Input C Q)
      → IsSoFar store k kept v sent event old.roles first
      → EndsBehind octets store before k kept sent looked made (turn store k (node_with kept v) sent
      (inputs_of k.me sent event looked made)))
