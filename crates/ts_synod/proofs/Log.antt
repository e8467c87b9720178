-- The log's steps are good.
use Rattle.std.proofs.Common.{ℕ, zero, suc, List, [], Option, Some, None, Bool, true, false, is_some, inl, inr, refl, subst, ⊎_elim, ◌≡◌, ◌+◌, ◌*◌, ◌<◌, ◌++◌, ◌∷◌}
use Rattle.std.proofs.lemmas.Bool.Decides.{Decides-eqb}
use Rattle.ts_synod.specs.declared.message.Body.TheVariants.{Accepted, Ask, Give}
use Rattle.ts_synod.specs.declared.message.Body.{Body}
use Rattle.ts_synod.specs.declared.message.Fact.{Fact}
use Rattle.ts_synod.specs.declared.message.Message.{Message}
use Rattle.ts_synod.specs.declared.message.Fact.TheVariants.{Took}
use Rattle.ts_synod.specs.declared.message.Vote.{Vote}
use Rattle.ts_synod.specs.Lists.{Has, update_at}
use Rattle.ts_synod.specs.Majority.{is_majority}
use Rattle.ts_synod.specs.Config.{Config}
use Rattle.ts_synod.specs.Messages.{send}
use Rattle.ts_synod.specs.Force.{greater_vote, learned_command, log_of, used_round}
use Rattle.ts_synod.specs.Store.{Store}
use Rattle.ts_synod.specs.Acceptor.{only_messages}
use Rattle.ts_synod.specs.Proposer.{ProposerStep, begin_phase_2, on_growth}
use Rattle.ts_synod.specs.Log.{LogStep, ask_back, ask_next, ask_others, ask_length, catch_up}
use Rattle.ts_synod.specs.Log.{count_votes, gives, has_grown, is_vote_in, keep_received, learn}
use Rattle.ts_synod.specs.Log.{leading, next_position, on_accepted, on_ask, on_give}
use Rattle.ts_synod.specs.Node.{Node, Volatile, log_effect, log_then_proposer, position_for_wanted}
use Rattle.ts_synod.specs.Laws.{IsChosen}
use Rattle.ts_synod.proofs.Sets.{has_left, has_right, has_cases, by_test, put_all, majority_from_test}
use Rattle.ts_synod.proofs.Best.{greater_is}
use Rattle.ts_synod.proofs.Forces.{learned_is}
use Rattle.ts_synod.proofs.Invariant.{Sent, ReceivedOk, VolatileOk, Safe, NewFact, NewBody}
use Rattle.ts_synod.proofs.Kept.{received_kept, proposing_kept}
use Rattle.ts_synod.proofs.Mild.{Mild, Plain, answers_plain, AllFrom, IsAccept, none_fresh, from_none, from_one, from_both, from_others}
use Rattle.ts_synod.proofs.Proposer.{IsPrepare, Starts, prepare_new, used_new, growth_starts}

module _ {C : Type 0} (config : Config) (P : C → Type 0) (nodes : ℕ → Node C) (sent : List (Message C)) where
  -- what the log keeps, sends and has received is right
  pub record Learns (log : LogStep C) : Type 0 where
    pub fact : (f : Fact C) → Has log.facts f → NewFact config.nodes nodes sent config.me f
    pub message : AllFrom config.me IsPrepare log.messages
    pub received : ReceivedOk sent log.received

  abbrev known : ℕ → Option C
  known = log_of (nodes config.me).facts

  listens_learns : (received : ℕ → ℕ → Option (Vote C)) → ReceivedOk sent received → Learns (keep_received known received)
  listens_learns received ok = record { fact = λ f k. absurd k; message = λ a to body k. absurd k; received = ok }

  learns_learns : (received : ℕ → ℕ → Option (Vote C)) (p : ℕ) (c : C)
      (begin_phase_2 : List (Message C)) → ReceivedOk sent received
      → IsChosen config.nodes nodes p c → AllFrom config.me IsPrepare begin_phase_2
      → Learns (learn known received p c begin_phase_2)
  learns_learns received p c begin_phase_2 ok chosen plain =
      record {
        fact = λ f. elim [ inl e ↦ subst (NewFact config.nodes nodes sent config.me) e chosen | inr k ↦ absurd k ];
        message = plain;
        received = λ q a v. put_all (λ j votes. votes a ≡ Some v → Sent sent a (Accepted j v.ballot v.command)) received p (λ x. None) (λ e. absurd (cc)) (λ j _ e. ok j a v e) q;
      }

  pub logs_mild : {O T Q V : Type 0} (store : Store C O T Q V) → config.me < 16
      → Safe config.nodes P nodes sent → (volatile : Volatile C) (log : LogStep C)
      → VolatileOk P (nodes config.me).facts sent config.me volatile → Learns log
      → Mild config.nodes P nodes sent config.me
      (log_then_proposer store config (nodes config.me).facts volatile log)
  logs_mild store low h volatile log ok k =
      let next = position_for_wanted store config log.learned volatile.proposer.wanted in
      by (has_grown known log.learned) log k (on_growth config (used_round (nodes config.me).facts) volatile.proposer next) (growth_starts config P nodes sent low h volatile.proposer next ok.proposer)
    where
      by : (more : Bool) (log : LogStep C) → Learns log → (growth : ProposerStep C)
          → Starts P nodes sent config.me growth
          → Mild config.nodes P nodes sent config.me (log_effect volatile more log growth)
      by false log l growth g =
          record {
            fact = l.fact;
            message = λ a to body x. let m = l.message a to body x in (m.0, prepare_new config.nodes P nodes sent config.me log.facts body m.1);
            state = λ new more in' none. record {
              proposer = proposing_kept P (nodes config.me).facts ((nodes config.me).facts ++ new)
                  sent more config.me volatile.proposer
                  (λ f x. has_left (nodes config.me).facts new f x)
                  (λ r. none_fresh more none (16 * r + config.me)) ok.proposer;
              received = received_kept sent more log.received l.received;
            };
          }
      by true log l growth g =
          record {
            fact = λ f x. ⊎_elim (λ (y : Has log.facts f). l.fact f y) (λ (y : Has growth.facts f). used_new config.nodes nodes sent config.me f (g.fact f y)) (has_cases log.facts growth.facts f x);
            message = λ a to body x. let m =
                from_both config.me IsPrepare log.messages growth.messages l.message g.message a to
                body x in (
                  m.0,
                  prepare_new config.nodes P nodes sent config.me
                      (log.facts ++ growth.facts) body m.1,
                );
            state = λ new more in' none. record {
              proposer = g.state new more (λ f y. in' f (has_right log.facts growth.facts f y)) none;
              received = received_kept sent more log.received l.received;
            };
          }

  asks_prepare : (node : ℕ) (o : Option ℕ) → AllFrom config.me IsPrepare (ask_next {C = C} config node o)
  asks_prepare node None = from_none config.me IsPrepare
  asks_prepare node (Some p) = from_one config.me IsPrepare node (Ask p) tt

  pub give_learns : Safe config.nodes P nodes sent
      → (received : ℕ → ℕ → Option (Vote C)) (from p : ℕ) (c : C) → ReceivedOk sent received
      → Sent sent from (Give p c) → Learns (on_give config known received from p c)
  give_learns h received from p c ok came =
      let now = update_at known p (Some c) in
      by_test Learns (is_some (learned_command p (nodes config.me).facts)) (keep_received known received) (learn known received p c (ask_back config known now from))
      (λ _. listens_learns received ok)
      (λ _. learns_learns received p c (ask_back config known now from) ok (h.given from p c came)
      (by_test (AllFrom config.me IsPrepare) (has_grown known now) (ask_next config from (next_position now)) [] (λ _. asks_prepare from (next_position now)) (λ _. from_none config.me IsPrepare)))

  abbrev New : Body C → Type 0
  New body = NewBody config.nodes P nodes sent config.me [] body × (IsAccept body → ⊥)

  gives_plain : Safe config.nodes P nodes sent → (from k p : ℕ) → AllFrom config.me New (gives config from p (leading k p known))
  gives_plain h from zero p = from_none config.me New
  gives_plain h from (suc k) p = go (gives_plain h from k (suc p)) (learned_command p (nodes config.me).facts) refl
    where
      later : List (Message C)
      later = gives config from (suc p) (leading k (suc p) known)

      go : AllFrom config.me New later → (o : Option C)
          → learned_command p (nodes config.me).facts ≡ o
          → AllFrom config.me New
          (gives {C = C} config from p
          (elim o [ None ↦ [] | Some c ↦ c ∷ leading k (suc p) known ]))
      go rest None e = from_none config.me New
      go rest (Some c) e = from_both config.me New (send config.me from (Give p c) ∷ []) later
          (from_one config.me New from (Give p c)
          (h.chosen config.me p c (learned_is (nodes config.me).facts p c e), λ k. k)) rest

  pub ask_plain : Safe config.nodes P nodes sent → (from p : ℕ) → Plain config.nodes P nodes sent config.me (only_messages (on_ask config known from p))
  ask_plain h from p = answers_plain config.nodes P nodes sent config.me (on_ask config known from p) (gives_plain h from (ask_length p) p)

  pub catch_up_plain : Plain config.nodes P nodes sent config.me (only_messages (catch_up config known))
  catch_up_plain = answers_plain config.nodes P nodes sent config.me (catch_up config known) (go (next_position known))
    where
      go : (o : Option ℕ) → AllFrom config.me New (ask_others {C = C} config o)
      go None = from_none config.me New
      go (Some p) = from_others config.me New config.nodes (Ask p) (tt, λ k. k)

  -- what a node received, with the Accepted that came
  abbrev HeardAt : ℕ → (ℕ → Option (Vote C)) → Type 0
  HeardAt p votes = (a : ℕ) (v : Vote C) → votes a ≡ Some v → Sent sent a (Accepted p v.ballot v.command)

  hears_learns : Safe config.nodes P nodes sent
      → (received : ℕ → ℕ → Option (Vote C)) (from p b : ℕ) (c : C) (votes : ℕ → Option (Vote C))
      → ReceivedOk sent received → Sent sent from (Accepted p b c) → HeardAt p votes
      → Learns (count_votes config known received p b c votes)
  hears_learns h received from p b c votes ok came good =
      by_test Learns (is_majority config.nodes (λ a. is_vote_in b (votes a))) (learn known received p c []) (keep_received known (update_at received p votes))
      (λ e. learns_learns received p c [] ok
      (record { ballot = b; voters = λ a. is_vote_in b (votes a); majority = majority_from_test config.nodes (λ a. is_vote_in b (votes a)) e; took = λ a t. voted a (votes a) refl t })
      (from_none config.me IsPrepare))
      (λ _. listens_learns (update_at received p votes)
      (λ q a v. put_all (λ j x. x a ≡ Some v → Sent sent a (Accepted j v.ballot v.command)) received
      p votes (λ e. good a v e) (λ j _ e. ok j a v e) q))
    where
      -- each of the votes in this ballot is for this command
      voted : (a : ℕ) (o : Option (Vote C)) → votes a ≡ o → is_vote_in b o ≡ true → Has (nodes a).facts (Took p b c)
      voted a None is e = absurd (cc)
      voted a (Some v) is e =
          let in' : v.ballot ≡ b = (Decides-eqb v.ballot b).0 e in
          let took = subst (λ d. Has (nodes a).facts (Took p d v.command)) in' (h.accepted a p v.ballot v.command (good a v is)) in
          let one = h.took a p b v.command took in
          let other = h.took from p b c (h.accepted from p b c came) in
          subst (λ x. Has (nodes a).facts (Took p b x)) (h.one one.0 other.0 p b v.command c one.1 other.1) took

  pub accepted_learns : Safe config.nodes P nodes sent
      → (received : ℕ → ℕ → Option (Vote C)) (from p b : ℕ) (c : C) → ReceivedOk sent received
      → Sent sent from (Accepted p b c) → Learns (on_accepted config known received from p b c)
  accepted_learns h received from p b c ok came =
      let new : Vote C = record { ballot = b; command = c } in
      let votes = update_at (received p) from (greater_vote (received p from) (Some new)) in
      by_test Learns (is_some (learned_command p (nodes config.me).facts)) (keep_received known received) (count_votes config known received p b c votes)
      (λ _. listens_learns received ok)
      (λ _. hears_learns h received from p b c votes ok came
      (λ a v. put_all (λ j x. x ≡ Some v → Sent sent j (Accepted p v.ballot v.command)) (received p) from (greater_vote (received p from) (Some new))
      (λ e. ⊎_elim
      (λ (k : received p from ≡ Some v). ok p from v k)
      (λ (k : Some new ≡ Some v). let same : new ≡ v = cc in subst (λ (x : Vote C). Sent sent from (Accepted p x.ballot x.command)) same came)
      (greater_is (received p from) (Some new) v e))
      (λ j _ e. ok p j v e) a))
