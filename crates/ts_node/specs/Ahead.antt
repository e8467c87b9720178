-- Inputs that a node takes in memory, one after another, each as a turn, and whose facts are then
-- kept together, by one append.
use Rattle.std.proofs.Common.{◌≡◌, ◌≤◌, ◌⊎◌, ◌++◌, ℕ, List, [], ◌∷◌, Option, Some, None}
use Rattle.std.proofs.Common.{Result, Ok, Err, IfOk, true, false}
use Rattle.std.specs.Prelude.{OnOk, IsErrOf}
use Rattle.ts_disk.specs.Disk.{State}
use Rattle.ts_synod.specs.declared.message.Fact.{Fact}
use Rattle.ts_synod.specs.declared.message.Message.{Message}
use Rattle.ts_synod.specs.Force.{SameForce}
use Rattle.ts_synod.specs.Laws.{node_with}
use Rattle.ts_synod.specs.Node as world
use Rattle.ts_synod.specs.Node.{step}
use Rattle.ts_synod.specs.Store.{Store}
use Rattle.ts_synod.specs.Turn.{Turn, turn}
use Rattle.ts_node.specs.declared.node.Node.{Node}
use Rattle.ts_node.specs.declared.input.Input.{Input}
use Rattle.ts_node.specs.declared.input.Input.TheVariants as kinds
use Rattle.ts_node.specs.declared.input.Output.{Output}
use Rattle.ts_node.specs.declared.input.Reply.{Reply}
use Rattle.ts_node.specs.declared.plan.Plan.{Plan}
use Rattle.ts_node.specs.declared.turn.StagedFacts.{StagedFacts}
use Rattle.ts_synod.specs.declared.fault.NodeFault.{NodeFault}
use Rattle.ts_synod.specs.declared.fault.NodeFault.TheVariants as faults
use Rattle.ts_node.specs.Inputs.{IsInput}
use Rattle.ts_node.specs.Node.{IsSame, Moments, config, facts, is_broken, volatile}
use Rattle.ts_node.specs.inside.Roles.{facts_in}
use Rattle.ts_node.specs.Staged.{AreReady, IsStaged, Keeps}
use Rattle.ts_node.specs.inside.Staged.{HasBegun}
use Rattle.ts_node.specs.Turn.{DoesTurn, EndsBehind, FitTogether, IsFirst, IsTurn, given_out}
use Rattle.ts_node.specs.Turn.{inputs_of}

-- nothing of the world's node is changed
pub record Stays {D C M : Type 0} (old new : Node D C M) : Type 0 where
  pub kept : facts new ≡ facts old
  pub volatile : volatile new ≡ volatile old

-- A turn is made, or its input is refused: as `HandlesTurn` has them, but that no device is called.
abbrev pub TakesTurn : {D C M O Q A : Type 0} → (List C → Q → A → Type 0) → Node D C M
    → Result (Output C O A) NodeFault → List (Message C) → Node D C M → Turn C O Q (List C) → Type 0
TakesTurn is_answer old (Ok output) made new t = DoesTurn is_answer old output made new t
TakesTurn is_answer old (Err faults.RoundsExhausted) made new t =
    IsFirst world.RoundsExhausted t.replies × Stays old new
TakesTurn is_answer old (Err faults.PositionsExhausted) made new t =
    IsFirst world.PositionsExhausted t.replies × Stays old new
TakesTurn is_answer old (Err faults.Memory) made new t = Stays old new
TakesTurn is_answer old (Err faults.DiskFailed) made new t = ⊥
TakesTurn is_answer old (Err faults.Broken) made new t = ⊥
TakesTurn is_answer old (Err faults.GenerationsExhausted) made new t = ⊥

-- the node, as if it had kept these facts too
abbrev pub holding : {D C M : Type 0} → Node D C M → List (Fact C) → Node D C M
holding node more = record node { kept = record node.kept { facts = node.kept.facts ++ more } }

-- The node's record, and roles that are ahead of it by the facts that wait to be kept; where the
-- node is not broken.
abbrev pub IsAhead : {D C M : Type 0} → (D → State) → (C → List ℕ) → (M → List C) → Node D C M
    → StagedFacts C → Type 0
IsAhead state octets commands node staged = is_broken node ≡ false
    → IsStaged state octets commands node staged.facts.items × AreReady octets staged

-- The facts that wait are kept, by one append, and none waits then; or the node is broken. A crash
-- at any moment within the call leaves none of these facts, or all.
pub record IsKept {D C M : Type 0} (state : D → State) (octets : C → List ℕ) (old : Node D C M)
    (waiting : List (Fact C)) (result : Result (Unit {0}) NodeFault) (after : List (Fact C))
    (new : Node D C M) : Type 0 where
  pub keeps : is_broken old ≡ false → Keeps state old waiting (volatile old) result new
  pub moments : is_broken old ≡ false → Moments state octets old waiting new
  pub left : OnOk result (after ≡ [])
  -- Where no fact waits the record stays as it is.
  pub none : OnOk result (waiting ≡ [] → new.kept ≡ old.kept)
  pub same : new ≡ record old { kept = new.kept; ahead = new.ahead }
  pub whole : OnOk result (is_broken new ≡ false)
  pub broken : is_broken old ≡ true → IsErrOf result faults.Broken × (new ≡ old)

-- What a plan comes to in memory, behind facts that were made before it: its turn is made; or a
-- record can't keep its facts together with those, and nothing is changed.
abbrev pub IsPlanned : {D C M O Q A : Type 0} → (C → List ℕ) → Store C O (List C) Q (List C)
    → Node D C M → Plan C → Reply O A → List (Fact C) → Result (Option (Output C O A)) NodeFault
    → List (Fact C) → Node D C M → Type 0
IsPlanned octets store old plan reply before (Ok (Some output)) after new = (new.ahead ≡ false)
    × HasBegun octets store old plan reply before (Ok output) after new
IsPlanned octets store old plan reply before (Ok None) after new = (after ≡ before) × (new ≡ old)
    × (FitTogether octets (before ++ facts_in plan.change) → ⊥)
IsPlanned octets store old plan reply before (Err fault) after new =
    HasBegun octets store old plan reply before (Err fault) after new

-- The encoding of a node's commands, the store of the world, and what its machine's answers rest
-- on.
module _ {D C M O Q A B : Type 0} (octets : C → List ℕ) (store : Store C O (List C) Q (List C))
    (basis : M → B) (is_answer : B → List C → Q → A → Type 0) where
  -- the turn of the world's node that has these facts and the volatile part of this node: an event,
  -- and the messages to the node itself among the first so many of these
  abbrev pub turn_from : Node D C M → List (Fact C) → List (Message C) → world.Input C Q → ℕ
      → List (Message C) → Turn C O Q (List C)
  turn_from node kept sent event looked made = turn store (config node)
      (node_with kept (volatile node)) sent (inputs_of (config node).me sent event looked made)

  -- An input at a node that holds the facts which wait, too, and the node that it leaves. `before`
  -- are the facts that wait, and `after` those with its own.
  pub record IsTaken (before : List (Fact C)) (old : Node D C M) (input : Input C Q)
      (result : Result (Output C O A) NodeFault) (after : List (Fact C))
      (new : Node D C M) : Type 0 where
    -- all messages that it made, how many of them were looked at, and its facts
    pub made : List (Message C)
    pub looked : ℕ
    pub more : List (Fact C)
    pub behind : after ≡ before ++ more
    pub holds : facts new ≡ facts old ++ more
    -- It is no compaction.
    pub real : input ≡ kinds.Compact → ⊥
    -- It does what a turn of the world's node does, whose facts are equivalent to the node's; and
    -- it goes on while there is a message to the node itself, up to its bounds.
    pub turned : (kept : List (Fact C)) (sent : List (Message C)) (event : world.Input C Q)
        → SameForce kept (facts old) → IsInput sent input event
        → TakesTurn (is_answer (basis old.machine)) old result made new
        (turn_from old kept sent event looked made)
        × OnOk result (EndsBehind octets store before (config old) kept sent looked made
        (turn_from old kept sent event looked made))
    pub few : looked ≤ 64
    -- A message to the node itself that it took is not given out.
    pub given : IfOk result (λ output. output.messages.items
        ≡ given_out (config old).me looked made)
    pub same_config : config new ≡ config old
    pub same_basis : basis new.machine ≡ basis old.machine

  -- An input can't be taken behind these facts: it is a compaction, or a record can't keep what it
  -- keeps together with them.
  abbrev pub IsStop : List (Fact C) → Node D C M → Input C Q → Type 0
  IsStop before node input = (kept : List (Fact C)) (sent : List (Message C))
      (event : world.Input C Q) → SameForce kept (facts node) → IsInput sent input event
      → FitTogether octets (before
      ++ (step store (config node) (node_with kept (volatile node)) sent event).effect.facts) → ⊥

  -- What an input comes to in memory, at a node whose roles are ahead of its record by the facts
  -- that wait: it is taken or refused; or it can't be taken behind them, and nothing is changed; or
  -- memory was refused once the roles were changed.
  abbrev pub IsNext : List (Fact C) → Node D C M → Input C Q
      → Result (Option (Output C O A)) NodeFault → List (Fact C) → Node D C M → Type 0
  IsNext before old input (Ok (Some output)) after new = (new.ahead ≡ false)
      × IsTaken before (holding old before) input (Ok output) after (holding new after)
  IsNext before old input (Ok None) after new = (new.ahead ≡ false) × (after ≡ before)
      × (volatile new ≡ volatile old) × IsStop before (holding old before) input
  IsNext before old input (Err faults.Broken) after new = new.ahead ≡ true
  IsNext before old input (Err fault) after new = (new.ahead ≡ false)
      × IsTaken before (holding old before) input (Err fault) after (holding new after)

  -- An input is taken or refused in memory; no device is called.
  pub record IsBehind (before : List (Fact C)) (old : Node D C M) (input : Input C Q)
      (result : Result (Output C O A) NodeFault) (after : List (Fact C)) (new : Node D C M)
      : Type 0 where
    pub taken : IsTaken before (holding old before) input result after (holding new after)
    pub kept : new.kept ≡ old.kept
    pub still : new.ahead ≡ false

  -- The facts that wait are kept first, since the input can't be taken behind them; it is a turn
  -- by itself then.
  pub record IsApart (state : D → State) (before : List (Fact C)) (old : Node D C M)
      (input : Input C Q) (result : Result (Output C O A) NodeFault) (after : List (Fact C))
      (new : Node D C M) : Type 0 where
    pub first : Node D C M
    pub mid : Node D C M
    pub stop : IsStop before (holding old before) input
    pub unmoved : IsSame old first
    pub keeps : IsKept state octets first before (Ok tt) after mid
    pub turned : IsTurn state octets store basis is_answer mid input result new

  -- The same, but that these facts could not be kept: the fault is that.
  pub record IsUnkept (state : D → State) (before : List (Fact C)) (old : Node D C M)
      (input : Input C Q) (result : Result (Output C O A) NodeFault) (after : List (Fact C))
      (new : Node D C M) : Type 0 where
    pub first : Node D C M
    pub fault : NodeFault
    pub stop : IsStop before (holding old before) input
    pub unmoved : IsSame old first
    pub keeps : IsKept state octets first before (Err fault) after new
    pub is : result ≡ Err fault

  -- Memory was refused once the roles were ahead of the facts, and the node is broken.
  pub record IsLost (old : Node D C M) (result : Result (Output C O A) NodeFault)
      (new : Node D C M) : Type 0 where
    pub fault : IsErrOf result faults.Broken
    pub ahead : new.ahead ≡ true
    pub kept : new.kept ≡ old.kept

  -- An input is handed to a node at which these facts wait to be kept.
  pub record IsStage (state : D → State) (before : List (Fact C)) (old : Node D C M)
      (input : Input C Q) (result : Result (Output C O A) NodeFault) (after : List (Fact C))
      (new : Node D C M) : Type 0 where
    pub comes : is_broken old ≡ false → IsBehind before old input result after new
        ⊎ IsApart state before old input result after new
        ⊎ IsUnkept state before old input result after new ⊎ IsLost old result new
    pub broken : is_broken old ≡ true
        → IsErrOf result faults.Broken × (new ≡ old) × (after ≡ before)
    pub same_config : config new ≡ config old
    pub same_basis : basis new.machine ≡ basis old.machine

  -- Inputs are taken or refused in memory, one after another, each behind the facts of those before
  -- it.
  abbrev pub AreBehind : List (Fact C) → Node D C M → List (Input C Q)
      → List (Result (Output C O A) NodeFault) → List (Fact C) → Node D C M → Type 0
  AreBehind before old [] [] after new = (after ≡ before) × (new ≡ old)
  AreBehind before old (input ∷ inputs) (r ∷ rs) after new = (then' : List (Fact C))
      × (mid : Node D C M) × IsBehind before old input r then' mid
      × AreBehind then' mid inputs rs after new
  AreBehind before old inputs results after new = ⊥
