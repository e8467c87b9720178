-- The rules in the case that a call is in.
use Rattle.std.proofs.Common.{◌≡◌, ◌∙◌, ◌==◌, ◌&&◌, ◌<◌, ℕ, Option, Some, Bool, true, false, is_some, if◌then◌else◌, ap, arith}
use Rattle.std.proofs.lemmas.Bool.Decides.{nat_tests, Decides-eqb}
use Rattle.ts_synod.specs.declared.message.Vote.{Vote}
use Rattle.ts_synod.specs.Lists.{update_at}
use Rattle.ts_synod.specs.Majority.{is_majority}
use Rattle.ts_synod.specs.Ballot.{ballot, last_round}
use Rattle.ts_synod.specs.Config.{Config}
use Rattle.ts_synod.specs.Proposer.{Preparing, ProposerState, Round, after_growth, begin_phase_2}
use Rattle.ts_synod.specs.Proposer.{begin_round, command_to_propose, count_promises, drop_wanted}
use Rattle.ts_synod.specs.Proposer.{greatest_reported, greatest_round, is_current, on_growth}
use Rattle.ts_synod.specs.Proposer.{on_promise, propose_again, rounds_are_exhausted, only_state}
use Rattle.ts_synod.specs.Proposer.{promise_in_phase, promise_in_round, with_round}

-- a majority has promised
pub majority : {C : Type 0} (config : Config) (state : ProposerState C) (round : Round C)
    (promises : ℕ → Option (Option (Vote C)))
    → is_majority config.nodes (λ a. is_some (promises a)) ≡ true
    → count_promises config state round promises ≡ begin_phase_2 config state round
    (command_to_propose (greatest_reported promises config.nodes) state.wanted)
majority config state round promises e =
    ap (λ (b : Bool). if b then begin_phase_2 config state round
    (command_to_propose (greatest_reported promises config.nodes) state.wanted) else only_state
    (with_round state (Some
    (record { number = round.number; position = round.position; phase = Preparing promises })))) e

current : {C : Type 0} (config : Config) (round : Round C) (p b : ℕ) → p ≡ round.position → b ≡ ballot config.me round.number → is_current config round p b ≡ true
current config round p b at is = ap (λ (t : Bool). t && (b == ballot config.me round.number)) ((Decides-eqb p round.position).1 at) ∙ (Decides-eqb b (ballot config.me round.number)).1 is

-- a new promise for the current round, which is in phase 1
pub counted : {C : Type 0} (config : Config) (state : ProposerState C) (round : Round C)
    (from p b : ℕ) (taken : Option (Vote C)) (promises : ℕ → Option (Option (Vote C)))
    → state.round ≡ Some round → p ≡ round.position → b ≡ ballot config.me round.number
    → round.phase ≡ Preparing promises → is_some (promises from) ≡ false
    → on_promise config state from p b taken ≡ count_promises config state round
    (update_at promises from (Some taken))
counted {C} config state round from p b taken promises here at is phase new =
    ap (promise_in_round config state from p b taken) here
    ∙ ap (λ (t : Bool). if t then promise_in_phase config state from taken round round.phase else only_state state) (current config round p b at is)
    ∙ ap (promise_in_phase config state from taken round) phase
    ∙ ap (λ (t : Bool). if t then only_state state else count_promises config state round (update_at promises from (Some taken))) new

spare : {C : Type 0} (used : ℕ) (state : ProposerState C) → greatest_round used state < last_round → rounds_are_exhausted used state ≡ false
spare used state low = grind (arith, nat_tests)

-- the prefix grew, and the wanted command is proposed again
pub again : {C : Type 0} (config : Config) (used : ℕ) (state : ProposerState C) (next : Option ℕ)
    (c : C) (p : ℕ) → state.wanted ≡ Some c → next ≡ Some p → greatest_round used state < last_round
    → on_growth config used state next ≡ begin_round config used state p c
again {C} config used state next c p wanted at low =
    ap (λ w. after_growth config used state w next) wanted
    ∙ ap (propose_again config used state c) at
    ∙ ap (λ (b : Bool). if b then drop_wanted state else begin_round config used state p c) (spare used state low)
