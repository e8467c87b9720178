-- A run of n nodes: calls, turns, rewrites, crashes and openings, each as the contracts of
-- `Node::handle`, `Node::turn` and `Node::open` describe it.
use Rattle.std.proofs.Common.{◌≡◌, ℕ, List, [], ◌∷◌, ◌++◌, map, Option, Some, Ok, true, false}
use Rattle.ts_synod.specs.declared.message.Fact.{Fact}
use Rattle.ts_synod.specs.declared.message.Message.{Message}
use Rattle.ts_synod.specs.Config.{is_node}
use Rattle.ts_synod.specs.Force.{SameForce, learned_command}
use Rattle.ts_synod.specs.Laws.{FirstChosen, IsChosen, RightOutcome, node_with}
use Rattle.ts_synod.specs.Lists.{Has, update_at}
use Rattle.ts_synod.specs.Store.{Store}
use Rattle.ts_synod.specs.Turn.{Turn, turn}
use Rattle.ts_synod.specs.World.{Event, World, after_events, after_run, config_of, start_world}
use Rattle.ts_synod.specs.Node as world
use Rattle.ts_journal.specs.Images.{Member}
use Rattle.ts_record.specs.Facts.{OpensTo}
use Rattle.ts_record.specs.Record.{OpensToForce}
use Rattle.ts_node.specs.declared.node.Node.{Node}
use Rattle.ts_node.specs.declared.input.Input.{Input}
use Rattle.ts_node.specs.declared.input.Input.TheVariants as inputs
use Rattle.ts_node.specs.declared.input.Output.{Output}
use Rattle.ts_node.specs.declared.input.Reply.{Reply}
use Rattle.ts_node.specs.declared.input.Reply.TheVariants as replies
use Rattle.ts_node.specs.Inputs.{IsInput}
use Rattle.ts_node.specs.Node.{Handles, IsSame, Rewrites, ToEither, config, facts, owner, volatile}
use Rattle.ts_node.specs.Turn.{DoesTurn}

-- an input, and the reply that was given to it
pub record Exchange (C O Q A : Type 0) : Type 0 where
  pub input : Input C Q
  pub reply : Reply O A

-- the nodes by number, every message that a call answered or a turn made, and every reply
pub record Group (D C M O Q A : Type 0) : Type 0 where
  pub nodes : ℕ → Node D C M
  pub sent : List (Message C)
  pub given : List (Exchange C O Q A)

-- What happens at node i, and the node then.
pub data Happening (D C M O Q A : Type 0) : Type 0 where
  -- a call answers
  called : (i : ℕ) → (input : Input C Q) → (output : Output C O A) → (new : Node D C M)
      → Happening D C M O Q A
  -- a turn answers, which made these messages, those to the node itself too
  turned : (i : ℕ) → (input : Input C Q) → (output : Output C O A) → (made : List (Message C))
      → (new : Node D C M) → Happening D C M O Q A
  -- a call answers a fault other than that of a device
  refused : (i : ℕ) → (new : Node D C M) → Happening D C M O Q A
  -- a compaction makes a step
  rewritten : (i : ℕ) → (output : Output C O A) → (new : Node D C M) → Happening D C M O Q A
  -- it stops between two calls or within a compaction, and is opened on these images
  reopened : (i : ℕ) → (a b : List ℕ) → (new : Node D C M) → Happening D C M O Q A
  -- it stops within a call, or a device fails, and is opened on these images
  stopped : (i : ℕ) → (input : Input C Q) → (a b : List ℕ) → (new : Node D C M)
      → Happening D C M O Q A
  -- it stops within a turn whose facts are all kept, and is opened on these images
  cut : (i : ℕ) → (input : Input C Q) → (made : List (Message C)) → (a b : List ℕ)
      → (new : Node D C M) → Happening D C M O Q A

abbrev pub after : {D C M O Q A : Type 0} → Group D C M O Q A → Happening D C M O Q A
    → Group D C M O Q A
after s (called i input output new) = record {
  nodes = update_at s.nodes i new;
  sent = s.sent ++ output.messages.items;
  given = s.given
      ++ record { input = input; reply = output.reply } ∷ [];
}
after s (turned i input output made new) = record {
  nodes = update_at s.nodes i new;
  sent = s.sent ++ made;
  given = s.given
      ++ record { input = input; reply = output.reply } ∷ [];
}
after s (refused i new) = record { nodes = update_at s.nodes i new; sent = s.sent; given = s.given }
after s (rewritten i output new) =
    record { nodes = update_at s.nodes i new; sent = s.sent; given = s.given }
after s (reopened i a b new) = record
    { nodes = update_at s.nodes i new; sent = s.sent; given = s.given }
after s (stopped i input a b new) =
    record { nodes = update_at s.nodes i new; sent = s.sent; given = s.given }
after s (cut i input made a b new) =
    record { nodes = update_at s.nodes i new; sent = s.sent ++ made; given = s.given }

abbrev pub after_all : {D C M O Q A : Type 0} → Group D C M O Q A → List (Happening D C M O Q A)
    → Group D C M O Q A
after_all s [] = s
after_all s (h ∷ hs) = after_all (after s h) hs

-- the commands that were handed in
abbrev pub handed_in_by : {C Q : Type 0} → Input C Q → List C
handed_in_by (inputs.Submit c) = c ∷ []
handed_in_by other = []

abbrev pub handed_in : {D C M O Q A : Type 0} → List (Happening D C M O Q A) → List C
handed_in [] = []
handed_in (called i input output new ∷ hs) = handed_in_by input ++ handed_in hs
handed_in (turned i input output made new ∷ hs) = handed_in_by input ++ handed_in hs
handed_in (refused i new ∷ hs) = handed_in hs
handed_in (rewritten i output new ∷ hs) = handed_in hs
handed_in (reopened i a b new ∷ hs) = handed_in hs
handed_in (stopped i input a b new ∷ hs) = handed_in_by input ++ handed_in hs
handed_in (cut i input made a b new ∷ hs) = handed_in_by input ++ handed_in hs

-- a node that was opened on a pair of images: what they open to are its facts, it is the member
-- whose record they are, and it has forgotten the rest
pub record IsOpened {D C M : Type 0} (octets : C → List ℕ) (a b : List ℕ)
    (new : Node D C M) : Type 0 where
  pub only : (whose : Member) (kept : List (Fact C)) → OpensTo octets whose kept a b
      → (facts new ≡ kept) × (owner new ≡ whose)
  pub restarted : volatile new ≡ world.initial

module _ {D C M O Q A : Type 0} (octets : C → List ℕ) (store : Store C O (List C) Q (List C))
    (is_answer : List C → Q → A → Type 0) (n : ℕ) where
  -- the step of the world at node i, of any facts that have the force of its own
  abbrev pub step_at : Group D C M O Q A → ℕ → List (Fact C) → world.Input C Q
      → world.Step C O Q (List C)
  step_at s i kept event = world.step store (config (s.nodes i))
      (node_with kept (volatile (s.nodes i))) s.sent event

  -- the turn of the world at node i: an event, and then deliveries of messages by their numbers
  abbrev pub turn_of : Group D C M O Q A → ℕ → List (Fact C) → world.Input C Q → List ℕ
      → Turn C O Q (List C)
  turn_of s i kept event more = turn store (config (s.nodes i))
      (node_with kept (volatile (s.nodes i))) s.sent (event ∷ map world.Deliver more)

  -- Which things can happen: a call that meets the contract of `handle` or of `turn` at an input
  -- that the messages sent so far allow, and an opening that meets that of `open` on images that a
  -- crash may leave. A node that stops within a turn of which nothing is kept is one that stopped
  -- before it.
  abbrev pub IsAllowed : Group D C M O Q A → Happening D C M O Q A → Type 0
  IsAllowed s (called i input output new) = (is_node n i ≡ true)
      × (config new ≡ config (s.nodes i)) × (event : world.Input C Q) × IsInput s.sent input event
      × ((kept : List (Fact C)) → SameForce kept (facts (s.nodes i))
      → Handles is_answer (s.nodes i) (Ok output) new (step_at s i kept event))
  IsAllowed s (turned i input output made new) = (is_node n i ≡ true)
      × (config new ≡ config (s.nodes i)) × (event : world.Input C Q) × IsInput s.sent input event
      × (more : List ℕ) × ((kept : List (Fact C)) → SameForce kept (facts (s.nodes i))
      → DoesTurn is_answer (s.nodes i) output made new (turn_of s i kept event more))
  IsAllowed s (refused i new) = (is_node n i ≡ true) × (config new ≡ config (s.nodes i))
      × IsSame (s.nodes i) new
  IsAllowed s (rewritten i output new) =
      (is_node n i ≡ true) × (config new ≡ config (s.nodes i)) × Rewrites (s.nodes i) output new
  IsAllowed s (reopened i a b new) = (is_node n i ≡ true)
      × OpensToForce octets (owner (s.nodes i)) (facts (s.nodes i)) a b × IsOpened octets a b new
  IsAllowed s (stopped i input a b new) =
      (is_node n i ≡ true) × (event : world.Input C Q) × IsInput s.sent input event
      × ((kept : List (Fact C)) → SameForce kept (facts (s.nodes i))
      → ToEither octets (owner (s.nodes i)) (facts (s.nodes i))
      (step_at s i kept event).effect.facts a b) × IsOpened octets a b new
  IsAllowed s (cut i input made a b new) =
      (is_node n i ≡ true) × (event : world.Input C Q) × IsInput s.sent input event
      × (more : List ℕ) × ((kept : List (Fact C)) → SameForce kept (facts (s.nodes i))
      → (made ≡ (turn_of s i kept event more).effect.messages)
      × OpensTo octets (owner (s.nodes i))
      (facts (s.nodes i) ++ (turn_of s i kept event more).effect.facts) a b)
      × IsOpened octets a b new

  abbrev pub AreAllowed : Group D C M O Q A → List (Happening D C M O Q A) → Type 0
  AreAllowed s [] = Unit {0}
  AreAllowed s (h ∷ hs) = IsAllowed s h × AreAllowed (after s h) hs

-- n nodes, each of which was opened on images that `Record::format` left, with its own number and
-- this n; and nothing was sent. A number that is no node's stands for a node that does nothing.
pub record IsStart {D C M O Q A : Type 0} (octets : C → List ℕ) (n : ℕ)
    (s : Group D C M O Q A) : Type 0 where
  pub formatted : (i : ℕ) → is_node n i ≡ true
      → (a b : List ℕ) × OpensTo octets (record { node = i; nodes = n }) [] a b
      × IsOpened octets a b (s.nodes i)
  pub others : (i : ℕ) → is_node n i ≡ false
      → (facts (s.nodes i) ≡ []) × (volatile (s.nodes i) ≡ world.initial)
  pub sent : s.sent ≡ []
  pub given : s.given ≡ []

-- a node is the world's node of its number: its facts have the force of that node's, and its
-- volatile part is the same
pub record IsNode {D C M : Type 0} (n i : ℕ) (a : Node D C M) (b : world.Node C) : Type 0 where
  pub force : SameForce b.facts (facts a)
  pub volatile : volatile a ≡ b.volatile
  pub numbered : is_node n i ≡ true → config a ≡ config_of n i

-- a group is the world: each node is the world's, and the messages sent are the same
pub record IsWorld {D C M O Q A : Type 0} (n : ℕ) (s : Group D C M O Q A)
    (w : World C O Q (List C)) : Type 0 where
  pub nodes : (i : ℕ) → IsNode n i (s.nodes i) (w.nodes i)
  pub sent : s.sent ≡ w.sent

-- At each moment of a run the group is the world after the events so far. To each thing that
-- happens belong the events of the world that it is: none, one, or those of a turn.
abbrev pub Follows : {D C M O Q A : Type 0} → Store C O (List C) Q (List C) → ℕ → Group D C M O Q A
    → World C O Q (List C) → List (Happening D C M O Q A) → List (List (Event C Q)) → Type 0
Follows store n s w [] [] = IsWorld n s w
Follows store n s w [] (es ∷ rest) = ⊥
Follows store n s w (h ∷ hs) [] = ⊥
Follows store n s w (h ∷ hs) (es ∷ rest) =
    IsWorld n s w × Follows store n (after s h) (after_events n store es w) hs rest

-- the events, one after the other
abbrev pub events_of : {C Q : Type 0} → List (List (Event C Q)) → List (Event C Q)
events_of [] = []
events_of (es ∷ rest) = es ++ events_of rest

-- What is promised of a run of a group: there is a run of the world which it follows at each
-- moment, and after which
-- - a command that a node has learned at a position is chosen there, no two nodes have learned
--   different ones, and one is chosen;
-- - each answer at k is one to the question after the first k chosen commands, and there is one
--   list of these;
-- - each id is settled at the first position that has it among the chosen commands, with the
--   outcome there;
-- - each chosen command was handed in.
pub record RunPromises {D C M O Q A : Type 0} (store : Store C O (List C) Q (List C))
    (is_answer : List C → Q → A → Type 0) (n : ℕ) (start : Group D C M O Q A)
    (run : List (Happening D C M O Q A)) : Type 0 where
  pub moments : List (List (Event C Q))
  pub follows : Follows store n start start_world run moments
  pub learned : (i p : ℕ) (c : C)
      → learned_command p (facts ((after_all start run).nodes i)) ≡ Some c
      → IsChosen n (after_run n store (events_of moments)).nodes p c
  pub agreed : (i j p : ℕ) (c d : C)
      → learned_command p (facts ((after_all start run).nodes i)) ≡ Some c
      → learned_command p (facts ((after_all start run).nodes j)) ≡ Some d → c ≡ d
  pub chosen : (p : ℕ) (c d : C) → IsChosen n (after_run n store (events_of moments)).nodes p c
      → IsChosen n (after_run n store (events_of moments)).nodes p d → c ≡ d
  pub answered : (at' : Option ℕ) (q : Q) (k : ℕ) (a : A)
      → Has (after_all start run).given
      (record { input = inputs.Ask at' q; reply = replies.Answered k a })
      → (cs : List C) × FirstChosen n (after_run n store (events_of moments)).nodes k cs
      × is_answer cs q a
  pub one : (k : ℕ) (cs ds : List C)
      → FirstChosen n (after_run n store (events_of moments)).nodes k cs
      → FirstChosen n (after_run n store (events_of moments)).nodes k ds → cs ≡ ds
  pub settled : (id : List ℕ) (p : ℕ) (o : O)
      → Has (after_all start run).given
      (record { input = inputs.Outcome id; reply = replies.Settled p o })
      → RightOutcome n store (after_run n store (events_of moments)).nodes id p o
  pub submitted_before : (c : C) (p : ℕ) (o : O)
      → Has (after_all start run).given
      (record { input = inputs.Submit c; reply = replies.Settled p o })
      → RightOutcome n store (after_run n store (events_of moments)).nodes (store.id_of c) p o
  pub handed : (p : ℕ) (c : C) → IsChosen n (after_run n store (events_of moments)).nodes p c
      → Has (handed_in run) c
