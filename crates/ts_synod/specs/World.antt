-- The world of Paxos Made Simple 2.1: n nodes that work at any speed, stop and restart, and
-- messages that 'can take arbitrarily long to be delivered, can be duplicated, and can be lost'. A
-- message that was sent can be delivered at any time and any number of times; one that is never
-- delivered is lost.
use Rattle.std.proofs.Common.{ℕ, List, [], ◌∷◌, ◌++◌, if◌then◌else◌}
use Rattle.ts_synod.specs.declared.message.Fact.{Fact}
use Rattle.ts_synod.specs.declared.message.Message.{Message}
use Rattle.ts_synod.specs.Lists.{update_at}
use Rattle.ts_synod.specs.Config.{Config, is_node}
use Rattle.ts_synod.specs.Store.{Store}
use Rattle.ts_synod.specs.Node.{CatchUp, Deliver, Input, Node, Outcome, Question, Reply, Status}
use Rattle.ts_synod.specs.Node.{Step, Submit, initial, step}

-- the nodes by number, every message ever sent, and every reply ever given
pub record World (C O Q V : Type 0) : Type 0 where
  pub nodes : ℕ → Node C
  pub sent : List (Message C)
  pub replies : List (Reply O Q V)

-- an event at a node
pub data Event (C Q : Type 0) : Type 0 where
  Handle : (node : ℕ) → Input C Q → Event C Q  -- it takes an input
  Restart : (node : ℕ) → Event C Q  -- it forgets its volatile part
  Stop : (node : ℕ) → Input C Q
      → Event C Q  -- it takes an input and keeps its facts, but its output is lost, and it restarts

-- no node has kept anything, and nothing was sent
abbrev pub start_world : {C O Q V : Type 0} → World C O Q V
start_world = record {
  nodes = λ i. record { facts = []; volatile = initial };
  sent = [];
  replies = [];
}

-- after a step of node i
abbrev pub with_step : {C O Q V : Type 0} → World C O Q V → ℕ → Step C O Q V → World C O Q V
with_step w i s =
    record {
      nodes = update_at w.nodes i (record {
        facts = (w.nodes i).facts ++ s.effect.facts;
        volatile = s.effect.volatile;
      });
      sent = w.sent ++ s.effect.messages;
      replies = w.replies ++ s.reply ∷ [];
    }

-- after node i kept these facts and stopped
abbrev pub with_stop : {C O Q V : Type 0} → World C O Q V → ℕ → List (Fact C) → World C O Q V
with_stop w i facts =
    record {
      nodes = update_at w.nodes i (record
          { facts = (w.nodes i).facts ++ facts; volatile = initial });
      sent = w.sent;
      replies = w.replies;
    }

-- after a restart of node i
abbrev pub with_restart : {C O Q V : Type 0} → World C O Q V → ℕ → World C O Q V
with_restart w i =
    record {
      nodes = update_at w.nodes i (record { facts = (w.nodes i).facts; volatile = initial });
      sent = w.sent;
      replies = w.replies;
    }

-- node i of n
abbrev pub config_of : ℕ → ℕ → Config
config_of n i = record { nodes = n; me = i }

-- the world after an event; an event at a number that is no node does nothing
abbrev pub after_event : {C O T Q V : Type 0} → ℕ → Store C O T Q V → World C O Q V → Event C Q
    → World C O Q V
after_event n store w (Handle i input) =
    if is_node n i then with_step w i (step store (config_of n i) (w.nodes i) w.sent input) else w
after_event n store w (Restart i) = if is_node n i then with_restart w i else w
after_event n store w (Stop i input) = if is_node n i
    then with_stop w i (step store (config_of n i) (w.nodes i) w.sent input).effect.facts else w

-- the world after events in turn
abbrev pub after_events : {C O T Q V : Type 0} → ℕ → Store C O T Q V → List (Event C Q)
    → World C O Q V → World C O Q V
after_events n store [] w = w
after_events n store (e ∷ es) w = after_events n store es (after_event n store w e)

-- the world after a whole run from the start
abbrev pub after_run : {C O T Q V : Type 0} → ℕ → Store C O T Q V → List (Event C Q) → World C O Q V
after_run n store es = after_events n store es start_world

-- the command that an input submits
abbrev pub submitted_by : {C Q : Type 0} → Input C Q → List C
submitted_by (Deliver which) = []
submitted_by (Submit c) = c ∷ []
submitted_by (Question k q) = []
submitted_by (Outcome id) = []
submitted_by CatchUp = []
submitted_by Status = []

-- the commands submitted in a run, at any node
abbrev pub submitted_commands : {C Q : Type 0} → List (Event C Q) → List C
submitted_commands [] = []
submitted_commands (Handle i input ∷ es) = submitted_by input ++ submitted_commands es
submitted_commands (Restart i ∷ es) = submitted_commands es
submitted_commands (Stop i input ∷ es) = submitted_by input ++ submitted_commands es
