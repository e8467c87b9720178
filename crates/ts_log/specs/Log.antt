-- What a log has learned and received, and the facts of a node that this comes from ('Paxos Made
-- Simple' 2.3, 2.5).
use Rattle.std.proofs.Common.{◌≡◌, ℕ, List, Option, Some, None, Result, Ok, Err}
use Rattle.ts_synod.specs.declared.message.Fact.{Fact}
use Rattle.ts_synod.specs.Config.{Config}
use Rattle.ts_synod.specs.Force.{log_of}
use Rattle.ts_synod.specs.Log.{ReceivedVotes}
use Rattle.ts_log.specs.declared.log.Log.{Log}
use Rattle.ts_log.specs.declared.log.PositionsExhausted.{PositionsExhausted}
use Rattle.ts_log.specs.Maps.{learned_in, received_in}

-- the command learned at a position
abbrev pub learned_of : {C : Type 0} → Log C → ℕ → Option C
learned_of log = learned_in log.learned.commands

-- by position and sender, the vote received
abbrev pub received_of : {C : Type 0} → Log C → ReceivedVotes C
received_of log = received_in log.received.votes

-- the number of nodes, and this node's number
abbrev pub config_of : {C : Type 0} → Log C → Config
config_of log = record { nodes = log.nodes; me = log.me }

-- the log has learned what a node's facts say
abbrev pub StandsFor : {C : Type 0} → Log C → List (Fact C) → Type 0
StandsFor log facts = learned_of log ≡ log_of facts

-- nothing that a log has learned or received is changed
pub record IsUnchanged {C : Type 0} (a b : Log C) : Type 0 where
  pub config : config_of b ≡ config_of a
  pub learned : learned_of b ≡ learned_of a
  pub received : received_of b ≡ received_of a

-- the position that a call answers, or None where it answers that the positions are exhausted
abbrev pub position_of : Result ℕ PositionsExhausted → Option ℕ
position_of (Ok p) = Some p
position_of (Err e) = None
