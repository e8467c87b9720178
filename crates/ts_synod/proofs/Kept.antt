-- A good step keeps the invariant.
use Rattle.std.proofs.Common.{ℕ, List, Option, Some, None, inl, inr, sym, subst, ⊎_elim, arith, le_trans, ◌≡◌, ◌≢◌, ◌⊎◌, ◌+◌, ◌*◌, ◌<◌, ◌≤◌, ◌++◌}
use Rattle.ts_synod.specs.declared.message.Body.TheVariants.{Accept, Accepted, Give, Promise}
use Rattle.ts_synod.specs.declared.message.Body.{Body}
use Rattle.ts_synod.specs.declared.message.Fact.TheVariants.{Chosen, Took, Used}
use Rattle.ts_synod.specs.declared.message.Fact.{Fact}
use Rattle.ts_synod.specs.declared.message.Message.{Message}
use Rattle.ts_synod.specs.declared.message.Vote.{Vote}
use Rattle.ts_synod.specs.Lists.{Has, update_at}
use Rattle.ts_synod.specs.Ballot.{ballot}
use Rattle.ts_synod.specs.Messages.{send}
use Rattle.ts_synod.specs.Force.{promised_ballot}
use Rattle.ts_synod.specs.Proposer.{Accepting, Phase, Preparing, ProposerState, Round}
use Rattle.ts_synod.specs.Node.{Node, Volatile}
use Rattle.ts_synod.specs.Laws.{IsChosen}
use Rattle.ts_synod.proofs.Sets.{has_left, has_cases, put_all, put_same}
use Rattle.ts_synod.proofs.Forces.{promised_bound}
use Rattle.ts_synod.proofs.Invariant.{Sent, Fresh, Reports, Promising, Justified, Asked, PhaseOk, RoundOk, ProposerOk, ReceivedOk, VolatileOk, Safe, Good}

-- the node i after a step
abbrev pub with_facts : {C : Type 0} → (ℕ → Node C) → ℕ → List (Fact C) → Volatile C → Node C
with_facts nodes i facts volatile = record { facts = (nodes i).facts ++ facts; volatile = volatile }

abbrev pub after : {C : Type 0} → (ℕ → Node C) → ℕ → List (Fact C) → Volatile C → ℕ → Node C
after nodes i facts volatile = update_at nodes i (with_facts nodes i facts volatile)

pub sent_more : {C : Type 0} (sent more : List (Message C)) (a : ℕ) (body : Body C) → Sent sent a body → Sent (sent ++ more) a body
sent_more sent more a body s = (s.0, has_left sent more _ s.1)

pub sent_cases : {C : Type 0} (sent more : List (Message C)) (a : ℕ) (body : Body C) → Sent (sent ++ more) a body → Sent sent a body ⊎ Sent more a body
sent_cases sent more a body s = ⊎_elim (λ (h : Has sent (send a s.0 body)). inl (s.0, h)) (λ (h : Has more (send a s.0 body)). inr (s.0, h)) (has_cases sent more _ s.1)

pub grows : {C : Type 0} (nodes : ℕ → Node C) (i : ℕ) (facts : List (Fact C)) (volatile : Volatile C) (a : ℕ) (f : Fact C) → Has (nodes a).facts f → Has (after nodes i facts volatile a).facts f
grows nodes i facts volatile a f =
    put_all (λ j node. Has (nodes j).facts f → Has node.facts f) nodes i (with_facts nodes i facts volatile) (λ h. has_left (nodes i).facts facts f h) (λ j _ h. h) a

new_cases : {C : Type 0} (nodes : ℕ → Node C) (i : ℕ) (facts : List (Fact C))
    (volatile : Volatile C) (a : ℕ) (f : Fact C) → Has (after nodes i facts volatile a).facts f
    → Has (nodes a).facts f ⊎ Has facts f
new_cases nodes i facts volatile a f =
    put_all (λ j node. Has node.facts f → Has (nodes j).facts f ⊎ Has facts f) nodes i (with_facts nodes i facts volatile) (λ h. has_cases (nodes i).facts facts f h) (λ j _ h. inl h) a

pub chosen_kept : {C : Type 0} (n : ℕ) (nodes : ℕ → Node C) (i : ℕ) (facts : List (Fact C))
    (volatile : Volatile C) (p : ℕ) (c : C) → IsChosen n nodes p c
    → IsChosen n (after nodes i facts volatile) p c
chosen_kept n nodes i facts volatile p c h = record { ballot = h.ballot; voters = h.voters; majority = h.majority; took = λ a e. grows nodes i facts volatile a (Took p h.ballot c) (h.took a e) }

pub justified_kept : {C : Type 0} (n : ℕ) (sent more : List (Message C)) (p b : ℕ) (c : C) → Justified n sent p b c → Justified n (sent ++ more) p b c
justified_kept n sent more p b c h = record { promises = h.promises; majority = h.majority; given = λ a t e. sent_more sent more a (Promise p b t) (h.given a t e); bound = h.bound }

-- more facts, none of them a vote below the ballot
pub reports_kept : {C : Type 0} (fs more : List (Fact C)) (p b : ℕ) (t : Option (Vote C)) → ((d : ℕ) (c : C) → Has more (Took p d c) → b ≤ d) → Reports fs p b t → Reports (fs ++ more) p b t
reports_kept {C} fs more p b None above h = λ d c k. ⊎_elim (λ (x : Has fs (Took p d c)). h d c x) (λ (x : Has more (Took p d c)). above d c x) (has_cases fs more _ k)
reports_kept {C} fs more p b (Some v) above h = (
  h.0,
  has_left fs more _ h.1,
  λ d c k l. ⊎_elim (λ (x : Has fs (Took p d c)). h.2 d c x l)
      (λ (x : Has more (Took p d c)). let m = above d c x in absurd (omega arith))
      (has_cases fs more _ k),
)

phase_kept : {C : Type 0} (sent more : List (Message C)) (j p b : ℕ) (phase : Phase C) → Fresh more b → PhaseOk sent j p b phase → PhaseOk (sent ++ more) j p b phase
phase_kept sent more j p b Accepting fresh h = tt
phase_kept {C} sent more j p b (Preparing promises) fresh h = (
  λ a t e. sent_more sent more a (Promise p b t) (h.0 a t e),
  λ a q c s. ⊎_elim
      (λ (x : Sent sent a (Accept q b c)). h.1 a q c x)
      (λ (x : Sent more a (Accept q b c)). fresh a q c x)
      (sent_cases sent more a (Accept q b c) s),
)

round_kept : {C : Type 0} (fs gs : List (Fact C)) (sent more : List (Message C)) (j : ℕ)
    (round : Option (Round C)) → ((f : Fact C) → Has fs f → Has gs f)
    → ((r : ℕ) → Fresh more (ballot j r)) → RoundOk fs sent j round
    → RoundOk gs (sent ++ more) j round
round_kept fs gs sent more j None grow fresh h = tt
round_kept fs gs sent more j (Some r) grow fresh h = (grow _ h.0, phase_kept sent more j r.position (ballot j r.number) r.phase (fresh r.number) h.1)

-- the state of a proposer that sends no Accept
pub proposing_kept : {C : Type 0} (P : C → Type 0) (fs gs : List (Fact C))
    (sent more : List (Message C)) (j : ℕ) (state : ProposerState C)
    → ((f : Fact C) → Has fs f → Has gs f) → ((r : ℕ) → Fresh more (ballot j r))
    → ProposerOk P fs sent j state → ProposerOk P gs (sent ++ more) j state
proposing_kept P fs gs sent more j state grow fresh h = record { round = round_kept fs gs sent more j state.round grow fresh h.round; wanted = h.wanted }

pub received_kept : {C : Type 0} (sent more : List (Message C)) (received : ℕ → ℕ → Option (Vote C)) → ReceivedOk sent received → ReceivedOk (sent ++ more) received
received_kept sent more received h = λ p a v e. sent_more sent more a (Accepted p v.ballot v.command) (h p a v e)

pub volatile_kept : {C : Type 0} (P : C → Type 0) (fs gs : List (Fact C))
    (sent more : List (Message C)) (j : ℕ) (volatile : Volatile C)
    → ((f : Fact C) → Has fs f → Has gs f) → ((r : ℕ) → Fresh more (ballot j r))
    → VolatileOk P fs sent j volatile → VolatileOk P gs (sent ++ more) j volatile
volatile_kept P fs gs sent more j volatile grow fresh h =
    record {
      proposer = proposing_kept P fs gs sent more j volatile.proposer grow fresh h.proposer;
      received = received_kept sent more volatile.received h.received;
    }

asked_kept : {C : Type 0} (n : ℕ) (P : C → Type 0) (fs gs : List (Fact C))
    (sent more : List (Message C)) (a p b : ℕ) (c : C) → ((f : Fact C) → Has fs f → Has gs f)
    → Asked n P fs sent a p b c → Asked n P gs (sent ++ more) a p b c
asked_kept n P fs gs sent more a p b c grow h =
    record {
      round = h.round;
      ballot_is = h.ballot_is;
      below = h.below;
      used =
          grow _ h.used;
      justified = justified_kept n sent more p b c h.justified;
      submitted =
          h.submitted;
    }

pub promising_kept : {C : Type 0} (fs more : List (Fact C)) (p b : ℕ) (t : Option (Vote C))
    → ((d : ℕ) (c : C) → Has more (Took p d c) → promised_ballot p fs ≤ d) → Promising fs p b t
    → Promising (fs ++ more) p b t
promising_kept fs more p b t above h =
    record {
      promised = has_left fs more _ h.promised;
      reports = reports_kept fs more p b t (λ d c k. le_trans (promised_bound fs p b h.promised) (above d c k)) h.reports;
    }

module _ {C : Type 0} (n : ℕ) (P : C → Type 0) (nodes : ℕ → Node C) (sent : List (Message C)) (i : ℕ) (facts : List (Fact C)) (messages : List (Message C)) (state : Volatile C) where
  -- what holds of the node that made the step holds of it by its number
  here : (Q : Node C → Type 0) (a : ℕ) → a ≡ i → Q (with_facts nodes i facts state) → Q (after nodes i facts state a)
  here Q a e h = subst Q (sym (put_same nodes i (with_facts nodes i facts state) a e)) h

  -- its own votes are at or above what it had promised
  above : Good n P nodes sent i facts messages state → (p d : ℕ) (c : C) → Has facts (Took p d c) → promised_ballot p (nodes i).facts ≤ d
  above g p d c h = (g.fact (Took p d c) h).0

  -- an Accept of the step is in a ballot of its node
  others : Good n P nodes sent i facts messages state → i < 16 → (j : ℕ) → j < 16 → j ≢ i → (r : ℕ) → Fresh messages (ballot j r)
  others g low j below apart r a p c s =
      let m = g.message a s.0 (Accept p (ballot j r) c) s.1 in
      let e : 16 * r + j ≡ 16 * m.1.round + i = m.1.ballot_is in
      apart (omega arith)

  pub keeps : i < 16 → Safe n P nodes sent → Good n P nodes sent i facts messages state → Safe n P (after nodes i facts state) (sent ++ messages)
  keeps low h g =
      record {
        promise = λ a p b t s. ⊎_elim
            (λ (x : Sent sent a (Promise p b t)).
            put_all (λ j node. Promising (nodes j).facts p b t → Promising node.facts p b t) nodes i
            (with_facts nodes i facts state)
            (λ k. promising_kept (nodes i).facts facts p b t (above g p) k) (λ j _ k. k) a
            (h.promise a p b t x))
            (λ (x : Sent messages a (Promise p b t)). let m = g.message a x.0 (Promise p b t) x.1 in here (λ node. Promising node.facts p b t) a m.0 m.1)
            (sent_cases sent messages a (Promise p b t) s);
        accepted = λ a p b c s. ⊎_elim
            (λ (x : Sent sent a (Accepted p b c)). grows nodes i facts state a (Took p b c) (h.accepted a p b c x))
            (λ (x : Sent messages a (Accepted p b c)). let m = g.message a x.0 (Accepted p b c) x.1 in here (λ node. Has node.facts (Took p b c)) a m.0 m.1)
            (sent_cases sent messages a (Accepted p b c) s);
        took = λ a p b c k. ⊎_elim
            (λ (x : Has (nodes a).facts (Took p b c)). let m = h.took a p b c x in (m.0, sent_more sent messages m.0 (Accept p b c) m.1))
            (λ (x : Has facts (Took p b c)). let m = (g.fact (Took p b c) x).1 in (m.0, sent_more sent messages m.0 (Accept p b c) m.1))
            (new_cases nodes i facts state a (Took p b c) k);
        asked = λ a p b c s. ⊎_elim
            (λ (x : Sent sent a (Accept p b c)). asked_kept n P (nodes a).facts (after nodes i facts state a).facts sent messages a p b c (λ f. grows nodes i facts state a f) (h.asked a p b c x))
            (λ (x : Sent messages a (Accept p b c)).
            let m = g.message a x.0 (Accept p b c) x.1 in
            record {
              round = m.1.round;
              ballot_is =
                  subst (λ j. b ≡ ballot j m.1.round) (sym m.0) m.1.ballot_is;
              below =
                  omega (arith, m.0);
              used =
                  grows nodes i facts state a (Used m.1.round)
                  (subst (λ j. Has (nodes j).facts (Used m.1.round)) (sym m.0) m.1.used);
              justified =
                  justified_kept n sent messages p b c m.1.justified;
              submitted = m.1.submitted;
            })
            (sent_cases sent messages a (Accept p b c) s);
        one = λ a d p b c e s t. ⊎_elim
            (λ (x : Sent sent a (Accept p b c)). ⊎_elim
            (λ (y : Sent sent d (Accept p b e)). h.one a d p b c e x y)
            (λ (y : Sent messages d (Accept p b e)). absurd ((g.message d y.0 (Accept p b e) y.1).1.fresh a p c x))
            (sent_cases sent messages d (Accept p b e) t))
            (λ (x : Sent messages a (Accept p b c)). ⊎_elim
            (λ (y : Sent sent d (Accept p b e)). absurd ((g.message a x.0 (Accept p b c) x.1).1.fresh d p e y))
            (λ (y : Sent messages d (Accept p b e)). g.one a d p b c e x y)
            (sent_cases sent messages d (Accept p b e) t))
            (sent_cases sent messages a (Accept p b c) s);
        chosen = λ a p c k. chosen_kept n nodes i facts state p c (⊎_elim
            (λ (x : Has (nodes a).facts (Chosen p c)). h.chosen a p c x)
            (λ (x : Has facts (Chosen p c)). g.fact (Chosen p c) x)
            (new_cases nodes i facts state a (Chosen p c) k));
        given = λ a p c s. chosen_kept n nodes i facts state p c (⊎_elim
            (λ (x : Sent sent a (Give p c)). h.given a p c x)
            (λ (x : Sent messages a (Give p c)). (g.message a x.0 (Give p c) x.1).1)
            (sent_cases sent messages a (Give p c) s));
        volatile = λ a below. put_all (λ j node. j < 16 → VolatileOk P node.facts (sent ++ messages) j node.volatile) nodes i (with_facts nodes i facts state)
            (λ _. g.volatile)
            (λ j apart l. volatile_kept P (nodes j).facts (nodes j).facts sent messages j (nodes j).volatile (λ f k. k) (others g low j l apart) (h.volatile j l))
            a below;
      }
