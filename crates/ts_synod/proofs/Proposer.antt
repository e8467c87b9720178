-- The proposer's steps are good.
use Rattle.std.proofs.Common.{ℕ, suc, max, List, Option, Some, None, inl, inr, refl, subst, ⊎_elim, arith, ◌≡◌, ◌+◌, ◌*◌, ◌/◌, ◌<◌, ◌++◌}
use Rattle.ts_synod.specs.declared.message.Body.TheVariants.{Accept, Accepted, Ask, Busy, Give, Prepare, Promise}
use Rattle.ts_synod.specs.declared.message.Body.{Body}
use Rattle.ts_synod.specs.declared.message.Fact.TheVariants.{Chosen, Promised, Took, Used}
use Rattle.ts_synod.specs.declared.message.Fact.{Fact}
use Rattle.ts_synod.specs.declared.message.Message.{Message}
use Rattle.ts_synod.specs.Lists.{Has}
use Rattle.ts_synod.specs.Ballot.{ballot}
use Rattle.ts_synod.specs.Config.{Config}
use Rattle.ts_synod.specs.Force.{used_round}
use Rattle.ts_synod.specs.Proposer.{ProposerState, ProposerStep, Round, after_growth, begin_round}
use Rattle.ts_synod.specs.Proposer.{drop_wanted, end_round, greatest_round, is_current, on_busy}
use Rattle.ts_synod.specs.Proposer.{on_growth, only_state, propose_again, rounds_are_exhausted}
use Rattle.ts_synod.specs.Proposer.{with_round}
use Rattle.ts_synod.specs.Node.{Node, Volatile, proposer_effect}
use Rattle.ts_synod.proofs.Sets.{has_left, has_right, by_test}
use Rattle.ts_synod.proofs.Forces.{used_bound}
use Rattle.ts_synod.proofs.Invariant.{Sent, Fresh, ProposerOk, ReceivedOk, Safe, NewFact, NewBody}
use Rattle.ts_synod.proofs.Kept.{sent_cases, proposing_kept, received_kept}
use Rattle.ts_synod.proofs.Mild.{Mild, AllFrom, NoAccept, none_fresh, IsAccept, from_all}

-- what a proposer send that starts a round, whatever it keeps
abbrev pub IsPrepare : {C : Type 0} → Body C → Type 0
IsPrepare (Prepare p b) = Unit {0}
IsPrepare (Promise p b t) = ⊥
IsPrepare (Busy p b above) = ⊥
IsPrepare (Accept p b c) = ⊥
IsPrepare (Accepted p b c) = ⊥
IsPrepare (Ask p) = Unit {0}
IsPrepare (Give p c) = ⊥

abbrev pub IsUsed : {C : Type 0} → Fact C → Type 0
IsUsed (Used r) = Unit {0}
IsUsed (Promised p b) = ⊥
IsUsed (Took p b c) = ⊥
IsUsed (Chosen p c) = ⊥

-- a move that keeps at most a round, and sends at most Prepares; its state is right whatever else is kept and sent
pub record Starts {C : Type 0} (P : C → Type 0) (nodes : ℕ → Node C) (sent : List (Message C)) (i : ℕ) (m : ProposerStep C) : Type 0 where
  pub fact : (f : Fact C) → Has m.facts f → IsUsed f
  pub message : AllFrom i IsPrepare m.messages
  pub state : (new : List (Fact C)) (more : List (Message C)) → ((f : Fact C) → Has m.facts f → Has new f) → NoAccept more → ProposerOk P ((nodes i).facts ++ new) (sent ++ more) i m.state

pub prepare_new : {C : Type 0} (n : ℕ) (P : C → Type 0) (nodes : ℕ → Node C)
    (sent : List (Message C)) (i : ℕ) (facts : List (Fact C)) (body : Body C) → IsPrepare body
    → NewBody n P nodes sent i facts body × (IsAccept body → ⊥)
prepare_new n P nodes sent i facts (Prepare p b) h = (tt, λ k. k)
prepare_new n P nodes sent i facts (Promise p b t) h = absurd h
prepare_new n P nodes sent i facts (Busy p b above) h = absurd h
prepare_new n P nodes sent i facts (Accept p b c) h = absurd h
prepare_new n P nodes sent i facts (Accepted p b c) h = absurd h
prepare_new n P nodes sent i facts (Ask p) h = (tt, λ k. k)
prepare_new n P nodes sent i facts (Give p c) h = absurd h

pub used_new : {C : Type 0} (n : ℕ) (nodes : ℕ → Node C) (sent : List (Message C)) (i : ℕ) (f : Fact C) → IsUsed f → NewFact n nodes sent i f
used_new n nodes sent i (Used r) h = tt
used_new n nodes sent i (Promised p b) h = absurd h
used_new n nodes sent i (Took p b c) h = absurd h
used_new n nodes sent i (Chosen p c) h = absurd h

module _ {C : Type 0} (config : Config) (P : C → Type 0) (nodes : ℕ → Node C) (sent : List (Message C)) where
  abbrev pub StateOk : ProposerState C → Type 0
  StateOk = ProposerOk P (nodes config.me).facts sent config.me

  pub starts_mild : (volatile : Volatile C) (m : ProposerStep C) → ReceivedOk sent volatile.received
      → Starts P nodes sent config.me m
      → Mild config.nodes P nodes sent config.me (proposer_effect volatile m)
  starts_mild volatile m received h =
      record {
        fact = λ f k. used_new config.nodes nodes sent config.me f (h.fact f k);
        message = λ a to body k. let x = h.message a to body k in (x.0, prepare_new config.nodes P nodes sent config.me m.facts body x.1);
        state = λ new more in' none. record { proposer = h.state new more in' none; received = received_kept sent more volatile.received received };
      }

  pub starts_stays : (state : ProposerState C) → StateOk state → Starts P nodes sent config.me (only_state state)
  starts_stays state ok =
      record {
        fact = λ f h. absurd h;
        message = λ a to body h. absurd h;
        state = λ new more in' none. proposing_kept P (nodes config.me).facts
            ((nodes config.me).facts ++ new) sent more config.me state
            (λ f k. has_left (nodes config.me).facts new f k)
            (λ r. none_fresh more none (ballot config.me r)) ok;
      }

  -- a round that was never used has sent no Accept
  unused : config.me < 16 → Safe config.nodes P nodes sent → (r : ℕ) → (Has (nodes config.me).facts (Used r) → ⊥) → Fresh sent (ballot config.me r)
  unused low h r never a p c s =
      let k = h.asked a p (ballot config.me r) c s in
      let e : 16 * r + config.me ≡ 16 * k.round + a = k.ballot_is in
      let l : a < 16 = k.below in
      let at : a ≡ config.me = omega arith in
      let is : k.round ≡ r = omega arith in
      never (subst (λ x. Has (nodes x).facts (Used r)) at (subst (λ x. Has (nodes a).facts (Used x)) is k.used))

  pub begins_starts : config.me < 16 → Safe config.nodes P nodes sent
      → (state : ProposerState C) (p : ℕ) (c : C) → P c
      → Starts P nodes sent config.me
      (begin_round config (used_round (nodes config.me).facts) state p c)
  begins_starts low h state p c holds =
      let r = suc (greatest_round (used_round (nodes config.me).facts) state) in
      record {
        fact = λ f. elim [ inl e ↦ subst IsUsed e tt | inr k ↦ absurd k ];
        message = from_all config.me IsPrepare config.nodes (Prepare p (ballot config.me r)) tt;
        state = λ new more has none. record {
          round = (
            has_right (nodes config.me).facts new (Used r) (has (Used r) (inl refl)),
            (
              λ a t e. absurd (cc),
              λ a q d s. ⊎_elim
                  (λ (x : Sent sent a (Accept q (ballot config.me r) d)). unused low h r never a q d x)
                  (λ (x : Sent more a (Accept q (ballot config.me r) d)). none_fresh more none (ballot config.me r) a q d x)
                  (sent_cases sent more a (Accept q (ballot config.me r) d) s),
            ),
          );
          wanted = λ d e. let k : c ≡ d = cc in subst P k holds;
        };
      }
    where
      never : Has (nodes config.me).facts (Used (suc (greatest_round (used_round (nodes config.me).facts) state))) → ⊥
      never k = let l = used_bound (nodes config.me).facts (suc (greatest_round (used_round (nodes config.me).facts) state)) k in omega arith

  pub growth_starts : config.me < 16 → Safe config.nodes P nodes sent
      → (state : ProposerState C) (next : Option ℕ) → StateOk state
      → Starts P nodes sent config.me
      (on_growth config (used_round (nodes config.me).facts) state next)
  growth_starts low h state next ok = by state.wanted ok.wanted next
    where
      dropped : Starts P nodes sent config.me (drop_wanted state)
      dropped = starts_stays (record { wanted = None; round = None; seen = state.seen }) (record { round = tt; wanted = λ c e. absurd (cc) })

      go : (c : C) → P c → (o : Option ℕ) → Starts P nodes sent config.me (propose_again config (used_round (nodes config.me).facts) state c o)
      go c holds None = dropped
      go c holds (Some p) =
          by_test (Starts P nodes sent config.me)
          (rounds_are_exhausted (used_round (nodes config.me).facts) state) (drop_wanted state)
          (begin_round config (used_round (nodes config.me).facts) state p c)
          (λ _. dropped)
          (λ _. begins_starts low h state p c holds)

      by : (wanted : Option C) → ((c : C) → wanted ≡ Some c → P c) → (o : Option ℕ) → Starts P nodes sent config.me (after_growth config (used_round (nodes config.me).facts) state wanted o)
      by None holds o = starts_stays (with_round state None) (record { round = tt; wanted = ok.wanted })
      by (Some c) holds o = go c (holds c refl) o

  pub busy_starts : (state : ProposerState C) (p b above : ℕ) → StateOk state → Starts P nodes sent config.me (on_busy config state p b above)
  busy_starts state p b above ok = starts_stays (end_round config state p b above state.round) (go state.round)
    where
      go : (o : Option (Round C)) → StateOk (end_round config state p b above o)
      go None = ok
      go (Some round) =
          by_test StateOk (is_current config round p b) (record { wanted = state.wanted; round = None; seen = max state.seen (above / 16) }) state
          (λ _. record { round = tt; wanted = ok.wanted })
          (λ _. ok)
