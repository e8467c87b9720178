-- The proposer keeps no facts but rounds.
use Rattle.std.proofs.Common.{refl, ◌≡◌, ℕ, [], Option, Some, None, is_some}
use Rattle.ts_synod.specs.declared.message.Vote.{Vote}
use Rattle.ts_synod.specs.Lists.{update_at}
use Rattle.ts_synod.specs.Majority.{is_majority}
use Rattle.ts_synod.specs.Config.{Config}
use Rattle.ts_synod.specs.Proposer.{Accepting, Phase, Preparing, ProposerState, ProposerStep, Round}
use Rattle.ts_synod.specs.Proposer.{after_growth, begin_phase_2, begin_round, command_to_propose}
use Rattle.ts_synod.specs.Proposer.{count_promises, drop_wanted, greatest_reported, is_current}
use Rattle.ts_synod.specs.Proposer.{on_growth, on_promise, only_state, promise_in_phase}
use Rattle.ts_synod.specs.Proposer.{promise_in_round, propose_again, rounds_are_exhausted}
use Rattle.ts_synod.specs.Proposer.{with_round}
use Rattle.ts_synod.proofs.Sets.{by_test}
use Rattle.ts_node.specs.inside.Roles.{AllUsed}

abbrev pub Rounds : {C : Type 0} → ProposerStep C → Type 0
Rounds step = AllUsed step.facts

phase_2 : {C : Type 0} (config : Config) (state : ProposerState C) (round : Round C) (o : Option C) → Rounds (begin_phase_2 config state round o)
phase_2 config state round None = tt
phase_2 config state round (Some c) = tt

counted : {C : Type 0} (config : Config) (state : ProposerState C) (round : Round C) (promises : ℕ → Option (Option (Vote C))) → Rounds (count_promises config state round promises)
counted config state round promises =
    by_test Rounds (is_majority config.nodes (λ a. is_some (promises a)))
    (begin_phase_2 config state round
    (command_to_propose (greatest_reported promises config.nodes) state.wanted))
    (only_state (with_round state
    (Some (record {
      number = round.number;
      position = round.position;
      phase =
          Preparing promises;
    }))))
    (λ _. phase_2 config state round (command_to_propose (greatest_reported promises config.nodes) state.wanted)) (λ _. tt)

in_phase : {C : Type 0} (config : Config) (state : ProposerState C) (from : ℕ)
    (taken : Option (Vote C)) (round : Round C) (phase : Phase C)
    → Rounds (promise_in_phase config state from taken round phase)
in_phase config state from taken round Accepting = tt
in_phase config state from taken round (Preparing promises) =
    by_test Rounds (is_some (promises from)) (only_state state)
    (count_promises config state round (update_at promises from (Some taken))) (λ _. tt)
    (λ _. counted config state round (update_at promises from (Some taken)))

in_round : {C : Type 0} (config : Config) (state : ProposerState C) (from p b : ℕ) (taken : Option (Vote C)) (o : Option (Round C)) → Rounds (promise_in_round config state from p b taken o)
in_round config state from p b taken None = tt
in_round config state from p b taken (Some round) =
    by_test Rounds (is_current config round p b) (promise_in_phase config state from taken round round.phase) (only_state state) (λ _. in_phase config state from taken round round.phase) (λ _. tt)

pub promise_rounds : {C : Type 0} (config : Config) (state : ProposerState C) (from p b : ℕ) (taken : Option (Vote C)) → Rounds (on_promise config state from p b taken)
promise_rounds config state from p b taken = in_round config state from p b taken state.round

again : {C : Type 0} (config : Config) (used : ℕ) (state : ProposerState C) (c : C) (next : Option ℕ) → Rounds (propose_again config used state c next)
again config used state c None = tt
again config used state c (Some p) = by_test Rounds (rounds_are_exhausted used state) (drop_wanted state) (begin_round config used state p c) (λ _. tt) (λ _. tt)

growth : {C : Type 0} (config : Config) (used : ℕ) (state : ProposerState C) (wanted : Option C) (next : Option ℕ) → Rounds (after_growth config used state wanted next)
growth config used state None next = tt
growth config used state (Some c) next = again config used state c next

pub growth_rounds : {C : Type 0} (config : Config) (used : ℕ) (state : ProposerState C) (next : Option ℕ) → Rounds (on_growth config used state next)
growth_rounds config used state next = growth config used state state.wanted next

-- nothing is kept
abbrev pub KeepsNone : {C : Type 0} → ProposerStep C → Type 0
KeepsNone step = step.facts ≡ []

phase_2_none : {C : Type 0} (config : Config) (state : ProposerState C) (round : Round C) (o : Option C) → KeepsNone (begin_phase_2 config state round o)
phase_2_none config state round None = refl
phase_2_none config state round (Some c) = refl

counted_none : {C : Type 0} (config : Config) (state : ProposerState C) (round : Round C) (promises : ℕ → Option (Option (Vote C))) → KeepsNone (count_promises config state round promises)
counted_none config state round promises =
    by_test KeepsNone (is_majority config.nodes (λ a. is_some (promises a)))
    (begin_phase_2 config state round
    (command_to_propose (greatest_reported promises config.nodes) state.wanted))
    (only_state (with_round state
    (Some (record {
      number = round.number;
      position = round.position;
      phase =
          Preparing promises;
    }))))
    (λ _. phase_2_none config state round (command_to_propose (greatest_reported promises config.nodes) state.wanted)) (λ _. refl)

in_phase_none : {C : Type 0} (config : Config) (state : ProposerState C) (from : ℕ)
    (taken : Option (Vote C)) (round : Round C) (phase : Phase C)
    → KeepsNone (promise_in_phase config state from taken round phase)
in_phase_none config state from taken round Accepting = refl
in_phase_none config state from taken round (Preparing promises) =
    by_test KeepsNone (is_some (promises from)) (only_state state)
    (count_promises config state round (update_at promises from (Some taken))) (λ _. refl)
    (λ _. counted_none config state round (update_at promises from (Some taken)))

in_round_none : {C : Type 0} (config : Config) (state : ProposerState C) (from p b : ℕ) (taken : Option (Vote C)) (o : Option (Round C)) → KeepsNone (promise_in_round config state from p b taken o)
in_round_none config state from p b taken None = refl
in_round_none config state from p b taken (Some round) =
    by_test KeepsNone (is_current config round p b)
    (promise_in_phase config state from taken round round.phase) (only_state state)
    (λ _. in_phase_none config state from taken round round.phase) (λ _. refl)

pub promise_none : {C : Type 0} (config : Config) (state : ProposerState C) (from p b : ℕ) (taken : Option (Vote C)) → KeepsNone (on_promise config state from p b taken)
promise_none config state from p b taken = in_round_none config state from p b taken state.round
