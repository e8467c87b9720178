-- Steps that send no Accept.
use Rattle.std.proofs.Common.{ℕ, zero, suc, List, [], inl, inr, sym, ap, subst, ⊎_elim, ◌≡◌, ◌∷◌, ◌++◌, ◌==◌}
use Rattle.ts_synod.specs.declared.message.Body.TheVariants.{Accept, Accepted, Ask, Busy, Give, Prepare, Promise}
use Rattle.ts_synod.specs.declared.message.Body.{Body}
use Rattle.ts_synod.specs.declared.message.Fact.{Fact}
use Rattle.ts_synod.specs.declared.message.Message.{Message}
use Rattle.ts_synod.specs.Lists.{Has}
use Rattle.ts_synod.specs.Ballot.{ballot}
use Rattle.ts_synod.specs.Messages.{broadcast, broadcast_to_others, send}
use Rattle.ts_synod.specs.Acceptor.{Output, only_messages}
use Rattle.ts_synod.specs.Node.{Effect, Node, Volatile, initial, no_effect, output_effect}
use Rattle.ts_synod.proofs.Sets.{has_left, has_cases, by_test}
use Rattle.ts_synod.proofs.Invariant.{Fresh, VolatileOk, NewFact, NewBody, Good}
use Rattle.ts_synod.proofs.Kept.{volatile_kept}

-- each message is from the node, and of its body Q holds
abbrev pub AllFrom : {C : Type 0} → ℕ → (Body C → Type 0) → List (Message C) → Type 0
AllFrom {C} i Q messages = (a to : ℕ) (body : Body C) → Has messages (send a to body) → (a ≡ i) × Q body

pub from_none : {C : Type 0} (i : ℕ) (Q : Body C → Type 0) → AllFrom i Q []
from_none i Q a to body h = absurd h

pub from_one : {C : Type 0} (i : ℕ) (Q : Body C → Type 0) (node : ℕ) (body : Body C) → Q body → AllFrom i Q (send i node body ∷ [])
from_one {C} i Q node body q a to other (inl e) = (sym (ap (λ (m : Message C). m.from) e), subst Q (ap (λ (m : Message C). m.body) e) q)
from_one i Q node body q a to other (inr h) = absurd h

pub from_both : {C : Type 0} (i : ℕ) (Q : Body C → Type 0) (xs ys : List (Message C)) → AllFrom i Q xs → AllFrom i Q ys → AllFrom i Q (xs ++ ys)
from_both i Q xs ys f g a to body h = ⊎_elim (λ (k : Has xs (send a to body)). f a to body k) (λ (k : Has ys (send a to body)). g a to body k) (has_cases xs ys _ h)

pub from_all : {C : Type 0} (i : ℕ) (Q : Body C → Type 0) (n : ℕ) (body : Body C) → Q body → AllFrom i Q (broadcast i n body)
from_all i Q zero body q = from_none i Q
from_all i Q (suc n) body q = from_both i Q (broadcast i n body) (send i (suc n) body ∷ []) (from_all i Q n body q) (from_one i Q (suc n) body q)

pub from_others : {C : Type 0} (i : ℕ) (Q : Body C → Type 0) (n : ℕ) (body : Body C) → Q body → AllFrom i Q (broadcast_to_others i n body)
from_others i Q zero body q = from_none i Q
from_others i Q (suc n) body q =
    by_test (AllFrom i Q) (suc n == i) (broadcast_to_others i n body) (broadcast_to_others i n body ++ send i (suc n) body ∷ []) (λ _. from_others i Q n body q)
    (λ _. from_both i Q (broadcast_to_others i n body) (send i (suc n) body ∷ []) (from_others i Q n body q) (from_one i Q (suc n) body q))

abbrev pub IsAccept : {C : Type 0} → Body C → Type 0
IsAccept (Prepare p b) = ⊥
IsAccept (Promise p b t) = ⊥
IsAccept (Busy p b above) = ⊥
IsAccept (Accept p b c) = Unit {0}
IsAccept (Accepted p b c) = ⊥
IsAccept (Ask p) = ⊥
IsAccept (Give p c) = ⊥

abbrev pub NoAccept : {C : Type 0} → List (Message C) → Type 0
NoAccept {C} messages = (a to : ℕ) (body : Body C) → Has messages (send a to body) → IsAccept body → ⊥

pub none_fresh : {C : Type 0} (more : List (Message C)) → NoAccept more → (b : ℕ) → Fresh more b
none_fresh more none b a p c s = none a s.0 (Accept p b c) s.1 tt

-- A step that sends no Accept: its state is right whatever else is kept and sent.
pub record Mild {C : Type 0} (n : ℕ) (P : C → Type 0) (nodes : ℕ → Node C) (sent : List (Message C)) (i : ℕ) (s : Effect C) : Type 0 where
  pub fact : (f : Fact C) → Has s.facts f → NewFact n nodes sent i f
  pub message : AllFrom i (λ body. NewBody n P nodes sent i s.facts body × (IsAccept body → ⊥)) s.messages
  pub state : (new : List (Fact C)) (more : List (Message C)) → ((f : Fact C) → Has s.facts f → Has new f) → NoAccept more → VolatileOk P ((nodes i).facts ++ new) (sent ++ more) i s.volatile

module _ {C : Type 0} (n : ℕ) (P : C → Type 0) (nodes : ℕ → Node C) (sent : List (Message C)) (i : ℕ) where
  pub mild_good : (s : Effect C) → Mild n P nodes sent i s → Good n P nodes sent i s.facts s.messages s.volatile
  mild_good s h =
      record {
        fact = h.fact;
        message = λ a to body k. let m = h.message a to body k in (m.0, m.1.0);
        one = λ a d p b c e x y. absurd (none a x.0 (Accept p b c) x.1 tt);
        volatile = h.state s.facts s.messages (λ f k. k) none;
      }
    where
      none : NoAccept s.messages
      none a to body k = (h.message a to body k).1.1

  -- a state that was right only_state so
  pub state_same : (s : Effect C) → VolatileOk P (nodes i).facts sent i s.volatile
      → (new : List (Fact C)) (more : List (Message C)) → ((f : Fact C) → Has s.facts f → Has new f)
      → NoAccept more → VolatileOk P ((nodes i).facts ++ new) (sent ++ more) i s.volatile
  state_same s ok new more in' none =
      volatile_kept P (nodes i).facts ((nodes i).facts ++ new) sent more i s.volatile
      (λ f k. has_left (nodes i).facts new f k) (λ r. none_fresh more none (ballot i r)) ok

  pub mild_quiet : (volatile : Volatile C) → VolatileOk P (nodes i).facts sent i volatile → Mild n P nodes sent i (no_effect volatile)
  mild_quiet volatile ok = record { fact = λ f h. absurd h; message = λ a to body h. absurd h; state = state_same (no_effect volatile) ok }

  -- the state after a restart
  pub blank_ok : (fs : List (Fact C)) (all : List (Message C)) → VolatileOk P fs all i initial
  blank_ok fs all = record { proposer = record { round = tt; wanted = λ c e. absurd (cc) }; received = λ p a v e. absurd (cc) }

  -- with_stop before it sent anything
  pub good_stopped : (facts : List (Fact C)) (messages : List (Message C)) (volatile : Volatile C) → Good n P nodes sent i facts messages volatile → Good n P nodes sent i facts [] initial
  good_stopped facts messages volatile g =
      record { fact = g.fact; message = λ a to body h. absurd h; one = λ a d p b c e x y. absurd x.1; volatile = blank_ok ((nodes i).facts ++ facts) (sent ++ []) }

-- What a node keeps and sends with its state unchanged.
pub record Plain {C : Type 0} (n : ℕ) (P : C → Type 0) (nodes : ℕ → Node C) (sent : List (Message C)) (i : ℕ) (out : Output C) : Type 0 where
  pub fact : (f : Fact C) → Has out.facts f → NewFact n nodes sent i f
  pub message : AllFrom i (λ body. NewBody n P nodes sent i out.facts body × (IsAccept body → ⊥)) out.messages

pub plain_mild : {C : Type 0} (n : ℕ) (P : C → Type 0) (nodes : ℕ → Node C)
    (sent : List (Message C)) (i : ℕ) (volatile : Volatile C) (out : Output C)
    → VolatileOk P (nodes i).facts sent i volatile → Plain n P nodes sent i out
    → Mild n P nodes sent i (output_effect volatile out)
plain_mild n P nodes sent i volatile out ok h = record { fact = h.fact; message = h.message; state = state_same n P nodes sent i (output_effect volatile out) ok }

pub answers_plain : {C : Type 0} (n : ℕ) (P : C → Type 0) (nodes : ℕ → Node C)
    (sent : List (Message C)) (i : ℕ) (messages : List (Message C))
    → AllFrom i (λ body. NewBody n P nodes sent i [] body × (IsAccept body → ⊥)) messages
    → Plain n P nodes sent i (only_messages messages)
answers_plain n P nodes sent i messages h = record { fact = λ f k. absurd k; message = h }
