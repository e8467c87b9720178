-- A small state machine, and the classic run of three nodes over it: two proposers, a restart, and
-- promises that come too late.
use Rattle.std.proofs.Common.{ℕ, List, [], length, ◌≡◌, ◌-◌, ◌∷◌, ◌++◌}
use Rattle.ts_synod.specs.Force.{log_of}
use Rattle.ts_synod.specs.Store.{Store}
use Rattle.ts_synod.specs.Log.{prefix}
use Rattle.ts_synod.specs.Node.{Answered, Deliver, Done, NotYet, PositionsExhausted, Prefix, Reply}
use Rattle.ts_synod.specs.Node.{RoundsExhausted, Settled, Started, Submit, Unknown}
use Rattle.ts_synod.specs.World.{Event, Handle, Restart, World, after_run}

-- a command: an id, and a number to append to a list
pub record Entry : Type 0 where
  pub id : ℕ
  pub number : ℕ

-- the state is the list, an outcome its length before, and the answer to any question the list
abbrev pub appending : Store Entry ℕ (List ℕ) ℕ (List ℕ)
appending = record {
  id_of = λ c. c.id ∷ [];
  empty = [];
  step = λ t c. (t ++ c.number ∷ [], length t);
  answer = λ t q. t;
}

abbrev pub ExampleEvent : Type 0
ExampleEvent = Event Entry ℕ

abbrev pub ExampleWorld : Type 0
ExampleWorld = World Entry ℕ ℕ (List ℕ)

-- two commands
abbrev pub first : Entry
first = record { id = 1; number = 100 }

abbrev pub second : Entry
second = record { id = 2; number = 200 }

-- each pair is a node, and the number of a message that reaches it; messages count from 1 in the
-- order in which they are sent
abbrev pub deliver : List (ℕ × ℕ) → List ExampleEvent
deliver [] = []
deliver (d ∷ ds) = Handle d.0 (Deliver (d.1 - 1)) ∷ deliver ds

-- Node 1 submits the first command: messages 1 to 3 are Prepare of ballot 17. Nodes 1 and 2 promise
-- (4 and 5), node 1 restarts, and the promises come too late. Node 2 submits the second command: 6
-- to 8 are Prepare of ballot 18; nodes 1 and 3 promise (9 and 10), Accept goes out (11 to 13), and
-- node 1 takes the second command (14 to 16 are its Accepted). Node 1 submits the first command
-- again, in round 2 since it used round 1: 17 to 19 are Prepare of ballot 33, and nodes 1 and 2
-- promise (20 and 21). Node 1 reports the second command, so Accept of ballot 33 carries that (22
-- to 24). Node 2 refuses message 12 of ballot 18 (25), and nodes 1 and 2 take ballot 33 (26 to 31).
abbrev pub classic_events : List ExampleEvent
classic_events =
    Handle 1 (Submit first) ∷ deliver ((1, 1) ∷ (2, 2) ∷ [])
    ++ Restart 1 ∷ deliver ((1, 4) ∷ (1, 5) ∷ [])
    ++ Handle 2 (Submit second) ∷ deliver ((1, 6) ∷ (3, 8) ∷ (2, 9) ∷ (2, 10) ∷ (1, 11) ∷ [])
    ++ Handle 1 (Submit first) ∷ deliver
    ((1, 17) ∷ (2, 18) ∷ (1, 20) ∷ (1, 21) ∷ (2, 12) ∷ (1, 22) ∷ (2, 23) ∷ (1, 26) ∷ (1, 29)
    ∷ [])

-- all other messages are delivered, and those sent on the way: node 1 learns the second command and
-- proposes the first at position 2
abbrev pub settling_events : List ExampleEvent
settling_events =
    deliver
    ((3, 3) ∷ (2, 7) ∷ (3, 13) ∷ (1, 14) ∷ (2, 15) ∷ (3, 16) ∷ (3, 19) ∷ (3, 24) ∷ (2, 25)
    ∷ (2, 27) ∷ (3, 28) ∷ (2, 30) ∷ (3, 31) ∷ (1, 32) ∷ (2, 33) ∷ (3, 34) ∷ (1, 35) ∷ (2, 36)
    ∷ (1, 37) ∷ (2, 38) ∷ [])
    ++ deliver
    ((3, 39) ∷ (1, 40) ∷ (1, 41) ∷ (2, 42) ∷ (3, 43) ∷ (1, 44) ∷ (1, 45) ∷ (1, 46) ∷ (1, 47)
    ∷ (2, 48) ∷ (3, 49) ∷ (1, 50) ∷ (2, 51) ∷ (3, 52) ∷ (1, 53) ∷ (2, 54) ∷ (3, 55) ∷ (1, 56)
    ∷ (2, 57) ∷ (3, 58) ∷ [])

-- the positions and ballots of the rounds that were started
abbrev pub rounds_started : {O Q V : Type 0} → List (Reply O Q V) → List (ℕ × ℕ)
rounds_started [] = []
rounds_started (Done ∷ rs) = rounds_started rs
rounds_started (Started p b ∷ rs) = (p, b) ∷ rounds_started rs
rounds_started (Settled id p o ∷ rs) = rounds_started rs
rounds_started (Unknown id ∷ rs) = rounds_started rs
rounds_started (NotYet k q m ∷ rs) = rounds_started rs
rounds_started (Answered k q v ∷ rs) = rounds_started rs
rounds_started (Prefix m ∷ rs) = rounds_started rs
rounds_started (RoundsExhausted ∷ rs) = rounds_started rs
rounds_started (PositionsExhausted ∷ rs) = rounds_started rs

-- what a node has learned without a gap
abbrev pub learned_by : ExampleWorld → ℕ → List Entry
learned_by w i = prefix (log_of (w.nodes i).facts)

-- The rounds are 17, 18 and 33, and at the end all nodes have learned the second command and then
-- the first, out of 58 messages.
pub record ClassicRun : Type 0 where
  pub rounds : rounds_started (after_run 3 appending classic_events).replies
      ≡ (1, 17) ∷ (1, 18) ∷ (1, 33) ∷ []
  pub chosen_once : learned_by (after_run 3 appending classic_events) 1 ≡ second ∷ []
  pub messages : length (after_run 3 appending (classic_events ++ settling_events)).sent ≡ 58
  pub node_1 : learned_by (after_run 3 appending (classic_events ++ settling_events)) 1
      ≡ second ∷ first ∷ []
  pub node_2 : learned_by (after_run 3 appending (classic_events ++ settling_events)) 2
      ≡ second ∷ first ∷ []
  pub node_3 : learned_by (after_run 3 appending (classic_events ++ settling_events)) 3
      ≡ second ∷ first ∷ []
