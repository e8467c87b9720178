-- A proposer in memory, and the state of the rules that it stands for ('Paxos Made Simple' 2.2,
-- 2.5).
use Rattle.std.proofs.Common.{◌≡◌, ℕ, List, Option, Some, None, if◌then◌else◌}
use Rattle.ts_synod.specs.declared.message.Fact.{Fact}
use Rattle.ts_synod.specs.declared.message.Vote.{Vote}
use Rattle.ts_synod.specs.Config.{Config}
use Rattle.ts_synod.specs.Force.{used_round}
use Rattle.ts_synod.specs.Proposer.{Accepting, Preparing, ProposerState, Round as RuleRound}
use Rattle.ts_proposer.specs.Promises.{promises_in}
use Rattle.ts_proposer.specs.declared.proposer.Proposer.{Proposer}
use Rattle.ts_proposer.specs.declared.proposer.State.{State}
use Rattle.ts_proposer.specs.declared.proposer.Round.{Round}

-- the round of the rules, with these promises if it is in phase 1
abbrev pub round_with : {C : Type 0} → (ℕ → Option (Option (Vote C))) → Option Round
    → Option (RuleRound C)
round_with promises None = None
round_with promises (Some r) = Some
    (record {
      number = r.number;
      position = r.position;
      phase = (if r.is_accepting then Accepting else Preparing promises);
    })

-- the state of the rules, with these promises
abbrev pub state_with : {C : Type 0} → (ℕ → Option (Option (Vote C))) → State C → ProposerState C
state_with promises s = record
    { wanted = s.wanted; round = round_with promises s.round; seen = s.seen }

-- the state of the rules
abbrev pub state_of : {C : Type 0} → Proposer C → ProposerState C
state_of p = state_with (promises_in p.promises) p.state

-- the greatest round used
abbrev pub used_of : {C : Type 0} → Proposer C → ℕ
used_of p = p.state.used

-- the number of nodes, and this node's number
abbrev pub config_of : {C : Type 0} → Proposer C → Config
config_of p = record { nodes = p.nodes; me = p.me }

-- the proposer has used the rounds that a node's facts say
abbrev pub StandsFor : {C : Type 0} → Proposer C → List (Fact C) → Type 0
StandsFor p facts = used_of p ≡ used_round facts

-- nothing of a proposer's state is changed
pub record IsUnchanged {C : Type 0} (p q : Proposer C) : Type 0 where
  pub config : config_of q ≡ config_of p
  pub state : state_of q ≡ state_of p
  pub used : used_of q ≡ used_of p
