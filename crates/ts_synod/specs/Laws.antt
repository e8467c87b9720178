-- What is chosen, and the laws of every run.
use Rattle.std.proofs.Common.{ℕ, suc, List, [], Bool, true, length, ◌≡◌, ◌≢◌, ◌≤◌, ◌∷◌, ◌++◌}
use Rattle.ts_synod.specs.declared.message.Fact.TheVariants.{Chosen, Took}
use Rattle.ts_synod.specs.declared.message.Fact.{Fact}
use Rattle.ts_synod.specs.declared.message.Message.{Message}
use Rattle.ts_synod.specs.Lists.{Has}
use Rattle.ts_synod.specs.Majority.{IsMajority}
use Rattle.ts_synod.specs.Config.{Config}
use Rattle.ts_synod.specs.Force.{SameForce}
use Rattle.ts_synod.specs.Store.{Store, tables}
use Rattle.ts_synod.specs.Node.{Answered, Input, Node, Settled, Volatile, step}
use Rattle.ts_synod.specs.World.{Event, World, after_run, submitted_commands}

-- c is chosen at p: a majority of the nodes at some time took it there in one ballot (Paxos Made
-- Simple 2.2)
pub record IsChosen {C : Type 0} (n : ℕ) (nodes : ℕ → Node C) (p : ℕ) (c : C) : Type 0 where
  pub ballot : ℕ
  pub voters : ℕ → Bool
  pub majority : IsMajority n voters
  pub took : (a : ℕ) → voters a ≡ true → Has (nodes a).facts (Took p ballot c)

-- node i has learned c at p (2.3)
abbrev pub Holds : {C : Type 0} → (ℕ → Node C) → ℕ → ℕ → C → Type 0
Holds nodes i p c = Has (nodes i).facts (Chosen p c)

-- the safety requirements of 2.1: 'only a single value is chosen, and a process never learns that a
-- value has been chosen unless it actually has been'; so no two nodes hold different commands at
-- one position
pub record Agrees {C : Type 0} (n : ℕ) (nodes : ℕ → Node C) : Type 0 where
  pub held : (i j p : ℕ) (c d : C) → Holds nodes i p c → Holds nodes j p d
      → (c ≡ d) × IsChosen n nodes p c
  pub chosen : (p : ℕ) (c d : C) → IsChosen n nodes p c → IsChosen n nodes p d → c ≡ d

-- each of these commands is chosen: the first at p, the next at p + 1, and so on
abbrev pub AreChosen : {C : Type 0} → ℕ → (ℕ → Node C) → ℕ → List C → Type 0
AreChosen n nodes p [] = Unit {0}
AreChosen n nodes p (c ∷ cs) = IsChosen n nodes p c × AreChosen n nodes (suc p) cs

-- cs is the first k chosen commands (3)
abbrev pub FirstChosen : {C : Type 0} → ℕ → (ℕ → Node C) → ℕ → List C → Type 0
FirstChosen n nodes k cs = (length cs ≡ k) × AreChosen n nodes 1 cs

-- v answers q over the state that the first k chosen commands make (3)
pub record RightVerdict {C O T Q V : Type 0} (n : ℕ) (store : Store C O T Q V) (nodes : ℕ → Node C)
    (k : ℕ) (q : Q) (v : V) : Type 0 where
  pub commands : List C
  pub chosen : FirstChosen n nodes k commands
  pub verdict : v ≡ store.answer (tables store commands) q

-- the command chosen at p is the first with this id, and o is its outcome (3)
pub record RightOutcome {C O T Q V : Type 0} (n : ℕ) (store : Store C O T Q V) (nodes : ℕ → Node C)
    (id : List ℕ) (p : ℕ) (o : O) : Type 0 where
  pub before : List C
  pub command : C
  pub chosen : FirstChosen n nodes p (before ++ command ∷ [])
  pub has_id : store.id_of command ≡ id
  pub is_first : (c : C) → Has before c → store.id_of c ≢ id
  pub outcome : o ≡ (store.step (tables store before) command).1

-- every reply is that of one state machine (3): each answer at k is right, and two answers to equal
-- questions at k are equal; each id is settled at its first position with the outcome there; there
-- is one list of the first k chosen commands
pub record Verdicts {C O T Q V : Type 0} (n : ℕ) (store : Store C O T Q V)
    (w : World C O Q V) : Type 0 where
  pub right : (k : ℕ) (q : Q) (v : V) → Has w.replies (Answered k q v)
      → RightVerdict n store w.nodes k q v
  pub equal : (k : ℕ) (q : Q) (u v : V) → Has w.replies (Answered k q u)
      → Has w.replies (Answered k q v) → u ≡ v
  pub settled : (id : List ℕ) (p : ℕ) (o : O) → Has w.replies (Settled id p o)
      → RightOutcome n store w.nodes id p o
  pub one : (k : ℕ) (cs ds : List C) → FirstChosen n w.nodes k cs → FirstChosen n w.nodes k ds
      → cs ≡ ds

-- after every list of events the nodes agree (2.1)
abbrev pub Agreement : {C O T Q V : Type 0} → Store C O T Q V → Type 0
Agreement {C} {O} {T} {Q} {V} store =
    (n : ℕ) (events : List (Event C Q)) → n ≤ 9 → Agrees n (after_run n store events).nodes

-- 'only a value that has been proposed may be chosen' (2.1): each chosen command was submitted at
-- some node
abbrev pub OnlySubmitted : {C O T Q V : Type 0} → Store C O T Q V → Type 0
OnlySubmitted {C} {O} {T} {Q} {V} store = (n : ℕ) (events : List (Event C Q)) (p : ℕ) (c : C)
    → n ≤ 9 → IsChosen n (after_run n store events).nodes p c → Has (submitted_commands events) c

-- after every list of events all replies given are those of one state machine (3)
abbrev pub EqualVerdicts : {C O T Q V : Type 0} → Store C O T Q V → Type 0
EqualVerdicts {C} {O} {T} {Q} {V} store =
    (n : ℕ) (events : List (Event C Q)) → n ≤ 9 → Verdicts n store (after_run n store events)

-- a node of these facts and this volatile part
abbrev pub node_with : {C : Type 0} → List (Fact C) → Volatile C → Node C
node_with facts volatile = record { facts = facts; volatile = volatile }

-- a step depends on the force of the facts alone (2.5): two nodes that differ only in facts of one
-- force make the same step
abbrev pub StepByForce : {C O T Q V : Type 0} → Store C O T Q V → Type 0
StepByForce {C} {O} {T} {Q} {V} store = (config : Config) (fs gs : List (Fact C))
    (volatile : Volatile C) (sent : List (Message C)) (input : Input C Q) → SameForce fs gs
    → step store config (node_with fs volatile) sent input
    ≡ step store config (node_with gs volatile) sent input

-- facts of one force stay so when the same facts are kept after them
abbrev pub ForceStays : Type 0 → Type 0
ForceStays C = (fs gs more : List (Fact C)) → SameForce fs gs → SameForce (fs ++ more) (gs ++ more)
