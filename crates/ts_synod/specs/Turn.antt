-- Several inputs that a node takes one after another, whose facts are kept together: a turn. A
-- message of an earlier input is among those sent when a later one is taken, so that a node's
-- messages to itself may be delivered within the turn.
use Rattle.std.proofs.Common.{◌≡◌, ℕ, true, List, [], ◌∷◌, ◌++◌, map}
use Rattle.ts_synod.specs.declared.message.Message.{Message}
use Rattle.ts_synod.specs.Config.{Config, is_node}
use Rattle.ts_synod.specs.Lists.{update_at}
use Rattle.ts_synod.specs.Store.{Store}
use Rattle.ts_synod.specs.Node.{Effect, Input, Node, Reply, Step, initial, step}
use Rattle.ts_synod.specs.World.{Event, Handle, Restart, World, after_events, config_of}

-- what a turn keeps, sends and changes, and the replies in the order of the inputs
pub record Turn (C O Q V : Type 0) : Type 0 where
  pub effect : Effect C
  pub replies : List (Reply O Q V)

-- the node after a step
abbrev pub node_after : {C O Q V : Type 0} → Node C → Step C O Q V → Node C
node_after node s = record { facts = node.facts ++ s.effect.facts; volatile = s.effect.volatile }

-- a step, and then a turn
abbrev pub step_then : {C O Q V : Type 0} → Step C O Q V → Turn C O Q V → Turn C O Q V
step_then s t =
    record {
      effect = record {
        facts = s.effect.facts ++ t.effect.facts;
        messages = s.effect.messages
            ++ t.effect.messages;
        volatile = t.effect.volatile;
      };
      replies = s.reply ∷ t.replies;
    }

-- the turn of a node at inputs, where `sent` is all messages sent before it
abbrev pub turn : {C O T Q V : Type 0} → Store C O T Q V → Config → Node C → List (Message C)
    → List (Input C Q) → Turn C O Q V
turn store config node sent [] = record
    { effect = record { facts = []; messages = []; volatile = node.volatile }; replies = [] }
turn store config node sent (input ∷ inputs) =
    let s = step store config node sent input in
    step_then s (turn store config (node_after node s) (sent ++ s.effect.messages) inputs)

-- the events of a turn of node i
abbrev pub events_of_turn : {C Q : Type 0} → ℕ → List (Input C Q) → List (Event C Q)
events_of_turn i inputs = map (Handle i) inputs

-- at every node the world is the first, but at node i it has kept the turn's facts, and all its
-- messages are sent and its replies given
pub record IsAfterTurn {C O Q V : Type 0} (old new : World C O Q V) (i : ℕ)
    (t : Turn C O Q V) : Type 0 where
  pub nodes : (j : ℕ) → new.nodes j
      ≡ update_at old.nodes i (record {
        facts = (old.nodes i).facts ++ t.effect.facts;
        volatile = t.effect.volatile;
      }) j
  pub sent : new.sent ≡ old.sent ++ t.effect.messages
  pub replies : new.replies ≡ old.replies ++ t.replies

-- the same, but node i has forgotten its volatile part
pub record IsAfterCrash {C O Q V : Type 0} (old new : World C O Q V) (i : ℕ)
    (t : Turn C O Q V) : Type 0 where
  pub nodes : (j : ℕ) → new.nodes j
      ≡ update_at old.nodes i (record {
        facts = (old.nodes i).facts ++ t.effect.facts;
        volatile = initial;
      }) j
  pub sent : new.sent ≡ old.sent ++ t.effect.messages
  pub replies : new.replies ≡ old.replies ++ t.replies

-- a turn of a node is one event of the world for each input, one after another
abbrev pub TurnIsEvents : {C O T Q V : Type 0} → Store C O T Q V → Type 0
TurnIsEvents {C} {O} {T} {Q} {V} store =
    (n : ℕ) (w : World C O Q V) (i : ℕ) (inputs : List (Input C Q)) → is_node n i ≡ true
    → IsAfterTurn w (after_events n store (events_of_turn i inputs) w) i
    (turn store (config_of n i) (w.nodes i) w.sent inputs)

-- and a crash once all facts of a turn are kept is these events and a restart: what was to be sent
-- is lost, and the replies are not read
abbrev pub CrashIsEvents : {C O T Q V : Type 0} → Store C O T Q V → Type 0
CrashIsEvents {C} {O} {T} {Q} {V} store =
    (n : ℕ) (w : World C O Q V) (i : ℕ) (inputs : List (Input C Q)) → is_node n i ≡ true
    → IsAfterCrash w (after_events n store (events_of_turn i inputs ++ Restart i ∷ []) w) i
    (turn store (config_of n i) (w.nodes i) w.sent inputs)
