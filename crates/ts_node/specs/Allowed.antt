-- Whatever a call of a node comes to is something that a run allows (`IsAllowed`), by the contract
-- of that call alone.
use Rattle.std.proofs.Common.{◌≡◌, ◌⊎◌, ◌++◌, ◌∷◌, ℕ, List, [], true, false, Result, Ok, Err}
use Rattle.std.specs.List.{AllByRecursion}
use Rattle.std.specs.Prelude.{MatchResult}
use Rattle.ts_disk.specs.Disk.{State}
use Rattle.ts_synod.specs.declared.message.Fact.{Fact}
use Rattle.ts_synod.specs.declared.message.Message.{Message}
use Rattle.ts_synod.specs.Config.{is_node}
use Rattle.ts_synod.specs.Node as world
use Rattle.ts_synod.specs.Store.{Store}
use Rattle.ts_node.specs.declared.node.Node.{Node}
use Rattle.ts_node.specs.declared.input.Input.{Input}
use Rattle.ts_node.specs.declared.input.Input.TheVariants as inputs
use Rattle.ts_node.specs.declared.input.Output.{Output}
use Rattle.ts_synod.specs.declared.fault.NodeFault.{NodeFault}
use Rattle.ts_synod.specs.declared.fault.NodeFault.TheVariants as faults
use Rattle.ts_node.specs.Ahead.{AreBehind, IsKept}
use Rattle.ts_node.specs.Inputs.{IsInput}
use Rattle.ts_node.specs.Node.{IsSound, is_broken}
use Rattle.ts_node.specs.Call.{IsCall}
use Rattle.ts_node.specs.Turn.{IsTurn}
use Rattle.ts_node.specs.Run.{AreAllowed, Group, Happening, IsAllowed, IsOpened, called, cut}
use Rattle.ts_node.specs.Run.{refused, reopened, rewritten, stopped, turned}

-- an input that the messages sent so far allow, or a compaction
abbrev pub IsOffered : {C Q : Type 0} → List (Message C) → Input C Q → Type 0
IsOffered {C} {Q} sent input = (input ≡ inputs.Compact)
    ⊎ ((event : world.Input C Q) × IsInput sent input event)

-- what a call of `handle` is that answers, and one that is cut off and after which the node is
-- opened on these images
abbrev pub answer_of : {D C M O Q A : Type 0} → ℕ → Input C Q → Output C O A → Node D C M
    → Happening D C M O Q A
answer_of i inputs.Compact output new = rewritten i output new
answer_of i input output new = called i input output new

abbrev pub stop_of : {D C M O Q A : Type 0} → ℕ → Input C Q → List ℕ → List ℕ → Node D C M
    → Happening D C M O Q A
stop_of i inputs.Compact a b opened = reopened i a b opened
stop_of i input a b opened = stopped i input a b opened

-- the same of `turn`, which made these messages
abbrev pub turn_answer_of : {D C M O Q A : Type 0} → ℕ → Input C Q → Output C O A
    → List (Message C) → Node D C M → Happening D C M O Q A
turn_answer_of i inputs.Compact output made new = rewritten i output new
turn_answer_of i input output made new = turned i input output made new

-- the disks of a node may have been left with these images at a moment between the first node and
-- the second
abbrev pub AreLeft : {D C M : Type 0} → (D → State) → Node D C M → Node D C M → List ℕ → List ℕ
    → Type 0
AreLeft state old new a b = (state new.kept.a).left_since (state old.kept.a).moment a
    × (state new.kept.b).left_since (state old.kept.b).moment b

-- what became of an input of a batch is this happening at node i: a turn, or a refusal
abbrev pub IsOne : {D C M O Q A : Type 0} → ℕ → Input C Q → Result (Output C O A) NodeFault
    → Happening D C M O Q A → Type 0
IsOne {D} {C} {M} i input (Ok output) h =
    (made : List (Message C)) × (new : Node D C M) × (h ≡ turned i input output made new)
IsOne {D} {C} {M} i input (Err fault) h = (new : Node D C M) × (h ≡ refused i new)

-- the same of the first inputs, one for each result
abbrev pub AreOnes : {D C M O Q A : Type 0} → ℕ → List (Input C Q)
    → List (Result (Output C O A) NodeFault) → List (Happening D C M O Q A) → Type 0
AreOnes i inputs [] [] = Unit {0}
AreOnes i (input ∷ inputs) (r ∷ rs) (h ∷ hs) = IsOne i input r h × AreOnes i inputs rs hs
AreOnes i inputs results run = ⊥

module _ {D C M O Q A B : Type 0} (state : D → State) (octets : C → List ℕ)
    (store : Store C O (List C) Q (List C)) (commands : M → List C) (basis : M → B)
    (is_answer : B → List C → Q → A → Type 0) (n : ℕ) (rest : B) where
  -- this can happen in a group
  abbrev pub May : Group D C M O Q A → Happening D C M O Q A → Type 0
  May s h = IsAllowed octets store (is_answer rest) n s h

  -- node i is one of the group that is not broken, and its answers rest on the group's basis
  pub record Works (s : Group D C M O Q A) (i : ℕ) : Type 0 where
    pub node : is_node n i ≡ true
    pub whole : is_broken (s.nodes i) ≡ false
    pub rests : basis (s.nodes i).machine ≡ rest

  -- A call of `handle` at node i. It answers; or it answers a fault, and changes nothing; or a
  -- device failed, which is what it is to be cut off.
  abbrev pub CallsAre : Type 0
  CallsAre = (s : Group D C M O Q A) (i : ℕ) (input : Input C Q)
      (result : Result (Output C O A) NodeFault) (new : Node D C M) → Works s i
      → IsOffered s.sent input
      → IsCall state octets store basis is_answer (s.nodes i) input result new
      → MatchResult result (λ output. May s (answer_of i input output new))
      (λ fault. (fault ≡ faults.DiskFailed) ⊎ May s (refused i new))

  -- A call that is cut off at any moment, or after which the node stops: it is opened on images
  -- that its disks may have been left with since the call began.
  abbrev pub StopsAre : Type 0
  StopsAre = (s : Group D C M O Q A) (i : ℕ) (input : Input C Q)
      (result : Result (Output C O A) NodeFault) (new : Node D C M) (a b : List ℕ)
      (opened : Node D C M) → Works s i → IsOffered s.sent input
      → IsCall state octets store basis is_answer (s.nodes i) input result new
      → AreLeft state (s.nodes i) new a b → IsOpened octets a b opened
      → May s (stop_of i input a b opened)

  -- A call of `turn`: the same, and `Broken` is answered too where a turn is cut off.
  abbrev pub TurnsAre : Type 0
  TurnsAre = (s : Group D C M O Q A) (i : ℕ) (input : Input C Q)
      (result : Result (Output C O A) NodeFault) (new : Node D C M) → Works s i
      → IsOffered s.sent input
      → IsTurn state octets store basis is_answer (s.nodes i) input result new
      → MatchResult result
      (λ output. (made : List (Message C)) × May s (turn_answer_of i input output made new))
      (λ fault. (fault ≡ faults.DiskFailed) ⊎ (fault ≡ faults.Broken) ⊎ May s (refused i new))

  abbrev pub CutsAre : Type 0
  CutsAre = (s : Group D C M O Q A) (i : ℕ) (input : Input C Q)
      (result : Result (Output C O A) NodeFault) (new : Node D C M) (a b : List ℕ)
      (opened : Node D C M) → Works s i → IsOffered s.sent input
      → IsTurn state octets store basis is_answer (s.nodes i) input result new
      → AreLeft state (s.nodes i) new a b → IsOpened octets a b opened
      → May s (reopened i a b opened)
      ⊎ ((made : List (Message C)) × May s (cut i input made a b opened))

  -- these can happen in a group, one after another
  abbrev pub MayAll : Group D C M O Q A → List (Happening D C M O Q A) → Type 0
  MayAll s run = AreAllowed octets store (is_answer rest) n s run

  -- Calls of `stage` that take their inputs in memory, and then one of `keep_staged`: what became
  -- of each input is a happening, one after another; and what is kept is a refusal, which changes
  -- nothing, and after which the node is the new one. Meanwhile the world does not see this node:
  -- the inputs are those that the messages allow once all is kept.
  abbrev pub BatchesAre : Type 0
  BatchesAre = (s : Group D C M O Q A) (i : ℕ) (inputs : List (Input C Q))
      (results : List (Result (Output C O A) NodeFault)) (waiting : List (Fact C))
      (staged : Node D C M) (result : Result (Unit {0}) NodeFault) (after : List (Fact C))
      (new : Node D C M) → Works s i → AllByRecursion (IsOffered s.sent) inputs
      → AreBehind octets store basis is_answer [] (s.nodes i) inputs results waiting staged
      → IsKept state octets staged waiting result after new
      → MatchResult result
      (λ done. (run : List (Happening D C M O Q A)) × AreOnes i inputs results run
      × MayAll s (run ++ refused i new ∷ []))
      (λ fault. (fault ≡ faults.DiskFailed) ⊎ (fault ≡ faults.Broken))

  -- Such calls that are cut off at any moment, or after which the node stops: nothing happened, or
  -- all of it did, and then the node is opened. What it would have sent counts as sent, and is
  -- lost. A node that stops before `keep_staged` is called is one that `RestsAre` speaks of.
  abbrev pub BreaksAre : Type 0
  BreaksAre = (s : Group D C M O Q A) (i : ℕ) (inputs : List (Input C Q))
      (results : List (Result (Output C O A) NodeFault)) (waiting : List (Fact C))
      (staged : Node D C M) (result : Result (Unit {0}) NodeFault) (after : List (Fact C))
      (new : Node D C M) (a b : List ℕ) (opened : Node D C M) → Works s i
      → AllByRecursion (IsOffered s.sent) inputs
      → AreBehind octets store basis is_answer [] (s.nodes i) inputs results waiting staged
      → IsKept state octets staged waiting result after new
      → AreLeft state (s.nodes i) new a b → IsOpened octets a b opened
      → May s (reopened i a b opened)
      ⊎ ((run : List (Happening D C M O Q A))
      × AreOnes i inputs results run × MayAll s (run ++ reopened i a b opened ∷ []))

  -- a node that stops between two calls is opened on images that its disks may be left with
  abbrev pub RestsAre : Type 0
  RestsAre = (s : Group D C M O Q A) (i : ℕ) (a b : List ℕ) (opened : Node D C M) → Works s i
      → IsSound state octets commands (s.nodes i)
      → (state (s.nodes i).kept.a).may_leave a → (state (s.nodes i).kept.b).may_leave b
      → IsOpened octets a b opened → May s (reopened i a b opened)

  -- what is allowed of a node's calls
  pub record AllCallsAre : Type 0 where
    pub calls : CallsAre
    pub stops : StopsAre
    pub turns : TurnsAre
    pub cuts : CutsAre
    pub batches : BatchesAre
    pub breaks : BreaksAre
    pub pauses : RestsAre
