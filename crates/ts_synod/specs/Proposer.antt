-- The proposer's rules (Paxos Made Simple 2.2, 'Putting the actions of the proposer and acceptor
-- together', and 2.5). In each,
-- `used` is the greatest round that the node kept as used.
use Rattle.std.proofs.Common.{ℕ, zero, suc, max, List, [], Option, Some, None, Bool, nat_le}
use Rattle.std.proofs.Common.{is_some, ◌∷◌, ◌==◌, ◌&&◌, if◌then◌else◌}
use Rattle.ts_synod.specs.declared.message.Body.TheVariants.{Accept, Prepare}
use Rattle.ts_synod.specs.declared.message.Fact.{Fact}
use Rattle.ts_synod.specs.declared.message.Message.{Message}
use Rattle.ts_synod.specs.declared.message.Fact.TheVariants.{Used}
use Rattle.ts_synod.specs.declared.message.Vote.{Vote}
use Rattle.ts_synod.specs.Lists.{update_at}
use Rattle.ts_synod.specs.Majority.{is_majority}
use Rattle.ts_synod.specs.Ballot.{ballot, last_round, round_of}
use Rattle.ts_synod.specs.Config.{Config}
use Rattle.ts_synod.specs.Messages.{broadcast}
use Rattle.ts_synod.specs.Force.{greater_vote}

-- phase 1 collects by node the votes that promises report; phase 2 has sent its Accept (2.2)
pub data Phase (C : Type 0) : Type 0 where
  Preparing : (promises : ℕ → Option (Option (Vote C))) → Phase C
  Accepting : Phase C

-- a round: one ballot at one position
pub record Round (C : Type 0) : Type 0 where
  pub number : ℕ
  pub position : ℕ
  pub phase : Phase C

-- what a proposer remembers until it restarts: the command that a client wants, the current round,
-- and the greatest round seen in a Busy
pub record ProposerState (C : Type 0) : Type 0 where
  pub wanted : Option C
  pub round : Option (Round C)
  pub seen : ℕ

-- a proposer that has restarted
abbrev pub idle : {C : Type 0} → ProposerState C
idle = record { wanted = None; round = None; seen = 0 }

-- facts to keep, messages to send once they are kept, and the state then
pub record ProposerStep (C : Type 0) : Type 0 where
  pub facts : List (Fact C)
  pub messages : List (Message C)
  pub state : ProposerState C

-- nothing to keep or send: only the state may change
abbrev pub only_state : {C : Type 0} → ProposerState C → ProposerStep C
only_state state = record { facts = []; messages = []; state = state }

-- the greatest round used or seen
abbrev pub greatest_round : {C : Type 0} → ℕ → ProposerState C → ℕ
greatest_round used state = max used state.seen

-- no round is left
abbrev pub rounds_are_exhausted : {C : Type 0} → ℕ → ProposerState C → Bool
rounds_are_exhausted used state = nat_le last_round (greatest_round used state)

-- begin phase 1 for c at p, in a round above all used and seen (2.2, 2.5). The round is kept as
-- used first, so a restart cannot use it again.
abbrev pub begin_round : {C : Type 0} → Config → ℕ → ProposerState C → ℕ → C → ProposerStep C
begin_round config used state p c =
    let r = suc (greatest_round used state) in
    record {
      facts = Used r ∷ [];
      messages = broadcast config.me config.nodes (Prepare p (ballot config.me r));
      state = record {
        wanted = Some c;
        round = Some (record { number = r; position = p; phase = Preparing (λ a. None) });
        seen = state.seen;
      };
    }

-- propose c at p in place of any other command; None says that the rounds are exhausted
abbrev pub propose : {C : Type 0} → Config → ℕ → ProposerState C → ℕ → C → Option (ProposerStep C)
propose config used state p c = if rounds_are_exhausted used state then None
    else Some (begin_round config used state p c)

-- the vote that a node's promise reports
abbrev pub reported_vote : {C : Type 0} → Option (Option (Vote C)) → Option (Vote C)
reported_vote None = None
reported_vote (Some taken) = taken

-- of the votes reported by nodes 1 to n, the one of the greatest ballot (2.2)
abbrev pub greatest_reported : {C : Type 0} → (ℕ → Option (Option (Vote C))) → ℕ → Option (Vote C)
greatest_reported promises zero = None
greatest_reported promises (suc n) =
    greater_vote (greatest_reported promises n) (reported_vote (promises (suc n)))

-- 'the value of the highest-numbered proposal among the responses', or the wanted command if no
-- proposal is reported (2.2)
abbrev pub command_to_propose : {C : Type 0} → Option (Vote C) → Option C → Option C
command_to_propose None wanted = wanted
command_to_propose (Some v) wanted = Some v.command

-- the state with another round
abbrev pub with_round : {C : Type 0} → ProposerState C → Option (Round C) → ProposerState C
with_round state round = record { wanted = state.wanted; round = round; seen = state.seen }

-- begin phase 2: Accept goes to all nodes (phase 2 a of 2.2)
abbrev pub begin_phase_2 : {C : Type 0} → Config → ProposerState C → Round C → Option C
    → ProposerStep C
begin_phase_2 config state round None = only_state state
begin_phase_2 config state round (Some c) =
    record {
      facts = [];
      messages = broadcast config.me config.nodes
          (Accept round.position (ballot config.me round.number) c);
      state = with_round state (Some
          (record { number = round.number; position = round.position; phase = Accepting }));
    }

-- with the promises of a majority phase 2 begins, and with fewer phase 1 goes on (2.2)
abbrev pub count_promises : {C : Type 0} → Config → ProposerState C → Round C
    → (ℕ → Option (Option (Vote C))) → ProposerStep C
count_promises config state round promises =
    if is_majority config.nodes (λ a. is_some (promises a))
    then begin_phase_2 config state round
    (command_to_propose (greatest_reported promises config.nodes) state.wanted)
    else only_state (with_round state
    (Some (record {
      number = round.number;
      position = round.position;
      phase = Preparing promises;
    })))

-- a promise counts in phase 1 only, and only the first of each sender
abbrev pub promise_in_phase : {C : Type 0} → Config → ProposerState C → ℕ → Option (Vote C)
    → Round C → Phase C → ProposerStep C
promise_in_phase config state from taken round Accepting = only_state state
promise_in_phase config state from taken round (Preparing promises) =
    if is_some (promises from)
    then only_state state
    else count_promises config state round (update_at promises from (Some taken))

-- the ballot and the position are those of the round
abbrev pub is_current : {C : Type 0} → Config → Round C → ℕ → ℕ → Bool
is_current config round p b = (p == round.position) && (b == ballot config.me round.number)

-- a promise counts for the current round only
abbrev pub promise_in_round : {C : Type 0} → Config → ProposerState C → ℕ → ℕ → ℕ → Option (Vote C)
    → Option (Round C) → ProposerStep C
promise_in_round config state from p b taken None = only_state state
promise_in_round config state from p b taken (Some round) =
    if is_current config round p b
    then promise_in_phase config state from taken round round.phase
    else only_state state

-- Promise of ballot b at p, with the vote that its sender took there (phase 2 a of 2.2)
abbrev pub on_promise : {C : Type 0} → Config → ProposerState C → ℕ → ℕ → ℕ → Option (Vote C)
    → ProposerStep C
on_promise config state from p b taken = promise_in_round config state from p b taken state.round

-- a Busy for the current round ends it, and the round of the promised ballot is seen
abbrev pub end_round : {C : Type 0} → Config → ProposerState C → ℕ → ℕ → ℕ → Option (Round C)
    → ProposerState C
end_round config state p b promised None = state
end_round config state p b promised (Some round) =
    if is_current config round p b
    then record { wanted = state.wanted; round = None; seen = max state.seen (round_of promised) }
    else state

-- Busy for ballot b at p, with the ballot that its sender has promised (2.4: the proposer abandons
-- the proposal)
abbrev pub on_busy : {C : Type 0} → Config → ProposerState C → ℕ → ℕ → ℕ → ProposerStep C
on_busy config state p b promised = only_state (end_round config state p b promised state.round)

-- no command is wanted, and no round is open
abbrev pub drop_wanted : {C : Type 0} → ProposerState C → ProposerStep C
drop_wanted state = only_state (record { wanted = None; round = None; seen = state.seen })

-- a new round for the wanted command, or none if it has no position or the rounds are exhausted
abbrev pub propose_again : {C : Type 0} → Config → ℕ → ProposerState C → C → Option ℕ
    → ProposerStep C
propose_again config used state c None = drop_wanted state
propose_again config used state c (Some p) =
    if rounds_are_exhausted used state then drop_wanted state else begin_round config used state p c

-- the current round ends, and a wanted command is proposed again
abbrev pub after_growth : {C : Type 0} → Config → ℕ → ProposerState C → Option C → Option ℕ
    → ProposerStep C
after_growth config used state None next = only_state (with_round state None)
after_growth config used state (Some c) next = propose_again config used state c next

-- the prefix of the log grew (3). `next` is where the wanted command can be proposed: None if its
-- id is in the prefix, or if the log is full.
abbrev pub on_growth : {C : Type 0} → Config → ℕ → ProposerState C → Option ℕ → ProposerStep C
on_growth config used state next = after_growth config used state state.wanted next
