-- A promise is collected, and a majority of them makes an Accept: good steps.
use Rattle.std.proofs.Common.{ℕ, List, [], Option, Some, None, true, is_some, refl, sym, ap, subst, ◌≡◌, ◌==◌, ◌∙◌}
use Rattle.std.proofs.lemmas.Bool.Decides.{Decides-eqb}
use Rattle.ts_synod.specs.declared.message.Body.TheVariants.{Accept, Promise}
use Rattle.ts_synod.specs.declared.message.Message.{Message}
use Rattle.ts_synod.specs.declared.message.Fact.TheVariants.{Used}
use Rattle.ts_synod.specs.declared.message.Vote.{Vote}
use Rattle.ts_synod.specs.Lists.{Has, update_at}
use Rattle.ts_synod.specs.Majority.{is_majority}
use Rattle.ts_synod.specs.Ballot.{ballot}
use Rattle.ts_synod.specs.Config.{Config}
use Rattle.ts_synod.specs.Messages.{broadcast}
use Rattle.ts_synod.specs.Proposer.{Accepting, Phase, Preparing, ProposerState, Round}
use Rattle.ts_synod.specs.Proposer.{begin_phase_2, command_to_propose, count_promises}
use Rattle.ts_synod.specs.Proposer.{greatest_reported, is_current, on_promise, only_state}
use Rattle.ts_synod.specs.Proposer.{promise_in_phase, promise_in_round, with_round}
use Rattle.ts_synod.specs.Node.{Effect, Node, Volatile, proposer_effect}
use Rattle.ts_synod.proofs.Sets.{has_left, by_test, and_true, put_all, majority_from_test}
use Rattle.ts_synod.proofs.Best.{best_is}
use Rattle.ts_synod.proofs.Invariant.{Sent, Fresh, PhaseOk, RoundOk, ReceivedOk, VolatileOk, Safe, Asking, NewBody, Good}
use Rattle.ts_synod.proofs.Kept.{received_kept}
use Rattle.ts_synod.proofs.Mild.{AllFrom, from_all, mild_good}
use Rattle.ts_synod.proofs.Proposer.{StateOk, starts_mild, starts_stays}

module _ {C : Type 0} (config : Config) (P : C → Type 0) (nodes : ℕ → Node C) (sent : List (Message C)) where
  abbrev pub GoodStep : Effect C → Type 0
  GoodStep s = Good config.nodes P nodes sent config.me s.facts s.messages s.volatile

  abbrev Gave : ℕ → ℕ → (ℕ → Option (Option (Vote C))) → Type 0
  Gave p b promises = (a : ℕ) (t : Option (Vote C)) → promises a ≡ Some t → Sent sent a (Promise p b t)

  stays_good : (volatile : Volatile C) (state : ProposerState C) → ReceivedOk sent volatile.received → StateOk config P nodes sent state → GoodStep (proposer_effect volatile (only_state state))
  stays_good volatile state received ok =
      mild_good config.nodes P nodes sent config.me (proposer_effect volatile (only_state state))
      (starts_mild config P nodes sent volatile (only_state state) received
      (starts_stays config P nodes sent state ok))

  -- the command of an Accept was submitted, and is the one that the promises bind
  chosen_well : Safe config.nodes P nodes sent
      → (p b : ℕ) (promises : ℕ → Option (Option (Vote C))) (wanted : Option C) → Gave p b promises
      → ((c : C) → wanted ≡ Some c → P c) → (o : Option (Vote C)) (c : C)
      → greatest_reported promises config.nodes ≡ o → command_to_propose o wanted ≡ Some c → P c
      × ((v : Vote C) → greatest_reported promises config.nodes ≡ Some v → v.command ≡ c)
  chosen_well h p b promises wanted gave holds None c is e = (holds c e, λ v f. absurd (cc))
  chosen_well h p b promises wanted gave holds (Some u) c is e =
      let by = best_is promises config.nodes u is in
      let ok = h.promise by.0 p b (Some u) (gave by.0 (Some u) by.1) in
      let was = h.took by.0 p u.ballot u.command ok.reports.1 in
      let same : u.command ≡ c = cc in
      (subst P same (h.asked was.0 p u.ballot u.command was.1).submitted, λ v f. let k : u ≡ v = cc in sym (ap (λ (x : Vote C). x.command) k) ∙ same)

  -- the Accept of a majority's promises
  asks_good : Safe config.nodes P nodes sent
      → (volatile : Volatile C) (state : ProposerState C) (round : Round C)
      (promises : ℕ → Option (Option (Vote C))) → ReceivedOk sent volatile.received
      → StateOk config P nodes sent state → Has (nodes config.me).facts (Used round.number)
      → Gave round.position (ballot config.me round.number) promises
      → Fresh sent (ballot config.me round.number)
      → is_majority config.nodes (λ a. is_some (promises a)) ≡ true → (t : Option C)
      → command_to_propose (greatest_reported promises config.nodes) state.wanted ≡ t
      → GoodStep (proposer_effect volatile (begin_phase_2 config state round t))
  asks_good h volatile state round promises received ok was gave fresh most None e = stays_good volatile state received ok
  asks_good h volatile state round promises received ok was gave fresh most (Some c) e =
      record {
        fact = λ f k. absurd k;
        message = λ a to body k. let m = from a to body k in (m.0, subst (NewBody config.nodes P nodes sent config.me []) (sym m.1) asking);
        one = λ a d p b x y s t. let k = (from a s.0 (Accept p b x) s.1).1 ∙ sym (from d t.0 (Accept p b y) t.1).1 in (cc);
        volatile = record {
          proposer = record { round = (has_left (nodes config.me).facts [] (Used round.number) was, tt); wanted = ok.wanted };
          received = received_kept sent (broadcast config.me config.nodes (Accept round.position (ballot config.me round.number) c)) volatile.received received;
        };
      }
    where
      from : AllFrom config.me (λ x. x ≡ Accept round.position (ballot config.me round.number) c) (broadcast config.me config.nodes (Accept round.position (ballot config.me round.number) c))
      from = from_all config.me (λ x. x ≡ Accept round.position (ballot config.me round.number) c) config.nodes (Accept round.position (ballot config.me round.number) c) refl

      well : P c × ((v : Vote C) → greatest_reported promises config.nodes ≡ Some v → v.command ≡ c)
      well = chosen_well h round.position (ballot config.me round.number) promises state.wanted gave ok.wanted (greatest_reported promises config.nodes) c refl e

      asking : Asking config.nodes P nodes sent config.me round.position (ballot config.me round.number) c
      asking =
          record {
            round = round.number;
            ballot_is = refl;
            used = was;
            justified = record { promises = promises; majority = majority_from_test config.nodes (λ a. is_some (promises a)) most; given = gave; bound = well.1 };
            submitted = well.0;
            fresh = fresh;
          }

  collects_good : Safe config.nodes P nodes sent
      → (volatile : Volatile C) (state : ProposerState C) (round : Round C)
      (promises : ℕ → Option (Option (Vote C))) → ReceivedOk sent volatile.received
      → StateOk config P nodes sent state → Has (nodes config.me).facts (Used round.number)
      → Gave round.position (ballot config.me round.number) promises
      → Fresh sent (ballot config.me round.number)
      → GoodStep (proposer_effect volatile (count_promises config state round promises))
  collects_good h volatile state round promises received ok was gave fresh =
      let more : ProposerState C = with_round state (Some (record { number = round.number; position = round.position; phase = Preparing promises })) in
      by_test (λ m. GoodStep (proposer_effect volatile m))
      (is_majority config.nodes (λ a. is_some (promises a)))
      (begin_phase_2 config state round
      (command_to_propose (greatest_reported promises config.nodes) state.wanted)) (only_state more)
      (λ e. asks_good h volatile state round promises received ok was gave fresh e (command_to_propose (greatest_reported promises config.nodes) state.wanted) refl)
      (λ _. stays_good volatile more received (record { round = (was, (gave, fresh)); wanted = ok.wanted }))

  phases_good : Safe config.nodes P nodes sent
      → (volatile : Volatile C) (state : ProposerState C) (from p b : ℕ) (t : Option (Vote C))
      → ReceivedOk sent volatile.received → StateOk config P nodes sent state
      → Sent sent from (Promise p b t) → (round : Round C) (phase : Phase C) → p ≡ round.position
      → b ≡ ballot config.me round.number → Has (nodes config.me).facts (Used round.number)
      → PhaseOk sent config.me round.position (ballot config.me round.number) phase
      → GoodStep (proposer_effect volatile (promise_in_phase config state from t round phase))
  phases_good h volatile state from p b t received ok came round Accepting at is was k = stays_good volatile state received ok
  phases_good h volatile state from p b t received ok came round (Preparing promises) at is was k =
      by_test (λ m. GoodStep (proposer_effect volatile m)) (is_some (promises from)) (only_state state) (count_promises config state round (update_at promises from (Some t)))
      (λ _. stays_good volatile state received ok)
      (λ _. collects_good h volatile state round (update_at promises from (Some t)) received ok was
      (λ a u. put_all (λ j x. x ≡ Some u → Sent sent j (Promise round.position (ballot config.me round.number) u)) promises from (Some t)
      (λ e. let same : t ≡ u = cc in
      subst (λ q. Sent sent from (Promise q (ballot config.me round.number) u)) at
      (subst (λ d. Sent sent from (Promise p d u)) is
      (subst (λ v. Sent sent from (Promise p b v)) same came)))
      (λ j _ e. k.0 j u e) a)
      k.1)

  round_good : Safe config.nodes P nodes sent
      → (volatile : Volatile C) (state : ProposerState C) (from p b : ℕ) (t : Option (Vote C))
      → ReceivedOk sent volatile.received → StateOk config P nodes sent state
      → Sent sent from (Promise p b t) → (o : Option (Round C))
      → RoundOk (nodes config.me).facts sent config.me o
      → GoodStep (proposer_effect volatile (promise_in_round config state from p b t o))
  round_good h volatile state from p b t received ok came None k = stays_good volatile state received ok
  round_good h volatile state from p b t received ok came (Some round) k =
      by_test (λ m. GoodStep (proposer_effect volatile m)) (is_current config round p b) (promise_in_phase config state from t round round.phase) (only_state state)
      (λ e. let both = and_true (p == round.position) (b == ballot config.me round.number) e in
      phases_good h volatile state from p b t received ok came round round.phase ((Decides-eqb p round.position).0 both.0) ((Decides-eqb b (ballot config.me round.number)).0 both.1) k.0 k.1)
      (λ _. stays_good volatile state received ok)

  pub promise_good : Safe config.nodes P nodes sent
      → (volatile : Volatile C) (from p b : ℕ) (t : Option (Vote C))
      → VolatileOk P (nodes config.me).facts sent config.me volatile
      → Sent sent from (Promise p b t)
      → GoodStep (proposer_effect volatile (on_promise config volatile.proposer from p b t))
  promise_good h volatile from p b t ok came = round_good h volatile volatile.proposer from p b t ok.received ok.proposer came volatile.proposer.round ok.proposer.round
