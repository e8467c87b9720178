-- Moves after moves, on all connections.
use Rattle.std.proofs.Common.{◌≡◌, ◌∙◌, ℕ, Bool, true, false, List, [], ◌∷◌, ◌++◌, Option, Some, None, Result, Ok, Err, slice_get, slice_set, refl, sym, ap, subst, inl, inr}
use Rattle.std.specs.declared.alloc.AllocError.{AllocError}
use Rattle.std.proofs.lemmas.Grind.{flat_map-append}
use Rattle.std.proofs.lemmas.List.{append-nil}
use Rattle.ts_wire.specs.declared.frame.Frame.{Frame}
use Rattle.ts_links.specs.declared.connections.ArriveFault.{ArriveFault}
use Rattle.ts_links.specs.declared.connections.ArriveFault.TheVariants as faults
use Rattle.ts_links.specs.declared.link.Link.{Link}
use Rattle.ts_links.specs.declared.link.TakeResult.{TakeResult}
use Rattle.ts_links.specs.declared.link.TakeResult.TheVariants as takes
use Rattle.ts_links.specs.Events.{AnsweredRequest, Change, Changes, Event, Quiet, event, requests_taken, taken_in}
use Rattle.ts_links.specs.Moves.{Closed, IsWaiting}
use Rattle.ts_links.specs.Table.{ArriveGives, LeaveGives, OpenGives}
use Rattle.ts_links.specs.Turns.{Gives, KeepsSome, IsReached, Refused1, RunsAndKeeps, Took1, TurnGives}
use Rattle.ts_links.proofs.Slots.{same_link, set_same}

changes_join : (events more : List Event) (links between others : List Link) → Changes links events between → Changes between more others → Changes links (events ++ more) others
changes_join [] more links between others a b = subst (λ (l : List Link). Changes l more others) a b
changes_join (event ∷ events) more links between others a b = (a.0, a.1, changes_join events more a.0 between others a.2 b)

taken-append : (events more : List Event) → requests_taken (events ++ more) ≡ requests_taken events ++ requests_taken more
taken-append events more = flat_map-append (λ (e : Event). taken_in e.move) events more

-- ---- moves that take no request

pub quiet_none : (links others : List Link) → others ≡ links → Quiet links others
quiet_none links others same = record { events = []; none = refl; changes = same }

pub quiet_one : (links others : List Link) (e : Event) → taken_in e.move ≡ [] → Change links e others → Quiet links others
quiet_one links others e none change = record { events = e ∷ []; none = append-nil (taken_in e.move) ∙ none; changes = (others, change, refl) }

pub quiet_then : (a b c : List Link) → Quiet a b → Quiet b c → Quiet a c
quiet_then a b c p q = record {
  events = p.events ++ q.events;
  none = taken-append p.events q.events ∙ ap (λ l. l ++ requests_taken q.events) p.none ∙ q.none;
  changes = changes_join p.events q.events a b c p.changes q.changes;
}

pub quiet_open : (links others : List Link) (now : ℕ) (slot : Option ℕ) → OpenGives links now slot others → Quiet links others
quiet_open links others now (Some slot) h = quiet_one links others (event slot now _) refl h.0
quiet_open links others now None h = quiet_none links others h.0

pub quiet_arrive : (links others : List Link) (slot now : ℕ) (piece : List ℕ) (r : Result (Unit {0}) ArriveFault) → ArriveGives links slot piece now r others → Quiet links others
quiet_arrive links others slot now piece (Ok done) h = quiet_one links others (event slot now _) refl h
quiet_arrive links others slot now piece (Err faults.NotOpen) h = quiet_none links others h.0
quiet_arrive links others slot now piece (Err faults.Full) h = quiet_none links others h.0
quiet_arrive links others slot now piece (Err faults.Memory) h = quiet_none links others h

pub quiet_leave : (links others : List Link) (slot count now : ℕ) (r : Bool) → LeaveGives links slot count now r others → Quiet links others
quiet_leave links others slot count now true h = quiet_one links others (event slot now _) refl h.2
quiet_leave links others slot count now false h = quiet_none links others h.0

pub quiet_close : (links others : List Link) (slot : ℕ) (did : Bool) → (did ≡ true → (now : ℕ) → Change links (event slot now Closed) others) → (did ≡ false → others ≡ links) → Quiet links others
quiet_close links others slot true did same = quiet_one links others (event slot 0 Closed) refl (did refl 0)
quiet_close links others slot false did same = quiet_none links others (same refl)

-- ---- and moves that do

module _ {S : Type 0} (turn : S → Frame → List Frame → S → Type 0) (keeps : S → S → Type 0) where
  keeps_join : (mids more : List S) (s t u : S) → KeepsSome turn keeps mids s t → KeepsSome turn keeps more t u → KeepsSome turn keeps (mids ++ more) s u
  keeps_join [] more s t u p q = subst (λ x. KeepsSome turn keeps more x u) p q
  keeps_join (mid ∷ mids) more s t u p q = (p.0, keeps_join mids more mid t u p.1 q)

  keeps_first : (mids : List S) (s t u : S) (pairs : List AnsweredRequest) → KeepsSome turn keeps mids s t → RunsAndKeeps turn keeps t pairs u → RunsAndKeeps turn keeps s pairs u
  keeps_first mids s t u [] p q = (mids ++ q.0, keeps_join mids q.0 s t u p q.1)
  keeps_first mids s t u (pair ∷ pairs) p q = (mids ++ q.0, q.1, q.2, keeps_join mids q.0 s t q.1 p q.3, q.4, q.5)

  runs_join : (s t u : S) (pairs more : List AnsweredRequest) → RunsAndKeeps turn keeps s pairs t → RunsAndKeeps turn keeps t more u → RunsAndKeeps turn keeps s (pairs ++ more) u
  runs_join s t u [] more p q = keeps_first p.0 s t u more p.1 q
  runs_join s t u (pair ∷ pairs) more p q = (p.0, p.1, p.2, p.3, p.4, runs_join p.2 t u pairs more p.5 q)

  pub reached_then : (s t u : S) (a b c : List Link) → IsReached turn keeps s a t b → IsReached turn keeps t b u c → IsReached turn keeps s a u c
  reached_then s t u a b c p q = record {
    events = p.events ++ q.events;
    changes = changes_join p.events q.events a b c p.changes q.changes;
    run = subst (λ (l : List AnsweredRequest). RunsAndKeeps turn keeps s l u) (sym (taken-append p.events q.events)) (runs_join s t u (requests_taken p.events) (requests_taken q.events) p.run q.run);
  }

  -- nothing was taken
  pub reached_quiet : (s : S) (a b : List Link) → Quiet a b → IsReached turn keeps s a s b
  reached_quiet s a b q = record { events = q.events; changes = q.changes; run = subst (λ (l : List AnsweredRequest). RunsAndKeeps turn keeps s l s) (sym q.none) ([], refl) }

  pub reached_none : (s : S) (a : List Link) → IsReached turn keeps s a s a
  reached_none s a = reached_quiet s a a (quiet_none a a refl)

  -- it tried to keep what was there
  pub reached_kept : (s t : S) (a : List Link) → keeps s t → IsReached turn keeps s a t a
  reached_kept s t a kept = record { events = []; changes = refl; run = (t ∷ [], (kept, refl)) }

  pub then_quiet : (s t : S) (a b c : List Link) → IsReached turn keeps s a t b → Quiet b c → IsReached turn keeps s a t c
  then_quiet s t a b c p q = reached_then s t t a b c p (reached_quiet t b c q)

  reached_took : (s t : S) (a b : List Link) (slot now : ℕ) → Took1 turn s a slot now t b → IsReached turn keeps s a t b
  reached_took s t a b slot now took = record {
    events = event slot now _ ∷ [];
    changes = (b, took.change, refl);
    run = ([], s, t, refl, took.turned, ([], refl));
  }

  reached_refused : (s t : S) (a b : List Link) (slot now : ℕ) → Refused1 turn s a slot now t b → IsReached turn keeps s a t b
  reached_refused s t a b slot now one = subst (λ (x : S). IsReached turn keeps s a x b) (sym one.same) (reached_quiet s a b (quiet_one a b (event slot now _) refl one.change))

  reached_same : (s t : S) (a b : List Link) → t ≡ s → b ≡ a → IsReached turn keeps s a t b
  reached_same s t a b same alike = subst (λ (x : S). IsReached turn keeps s a x b) (sym same) (reached_quiet s a b (quiet_none a b alike))

  pub reached_gives : (s t : S) (a b : List Link) (slot now : ℕ) (r : Result TakeResult AllocError) → Gives turn s a slot now r t b → IsReached turn keeps s a t b
  reached_gives s t a b slot now (Ok takes.Request) h = reached_took s t a b slot now h.0
  reached_gives s t a b slot now (Ok takes.Fault) h = reached_refused s t a b slot now h.0
  reached_gives s t a b slot now (Ok takes.Nothing) h = reached_same s t a b h.0 h.1
  reached_gives s t a b slot now (Err e) (inl h) = reached_same s t a b h.0 h.1
  reached_gives s t a b slot now (Err e) (inr (inl h)) = reached_took s t a b slot now h
  reached_gives s t a b slot now (Err e) (inr (inr h)) = reached_refused s t a b slot now h

module _ {S : Type 0} (turn : S → Frame → List Frame → S → Type 0) where
  -- what a turn of a slot comes to, from what it does at its connection
  pub gives_of : (links : List Link) (slot now : ℕ) (a b : Link) (s t : S)
      (r : Result TakeResult AllocError) → slice_get links slot ≡ Some a
      → TurnGives turn s a now r t b → Gives turn s links slot now r t (slice_set links slot b)
  gives_of links slot now a b s t (Ok takes.Request) was h =
      (record { request = h.0.request; answers = h.0.answers; turned = h.0.turned; change = record { before = a; after = b; was = was; is = refl; makes = h.0.moved } }, h.1)
  gives_of links slot now a b s t (Ok takes.Fault) was h = (record { fault = h.0.fault; same = h.0.same; change = record { before = a; after = b; was = was; is = refl; makes = h.0.moved } }, h.1)
  gives_of links slot now a b s t (Ok takes.Nothing) was h =
      (h.0, ap (λ (l : Link). slice_set links slot l) h.1 ∙ set_same links slot a was, λ link is. subst IsWaiting (same_link links slot a link was is) h.2)
  gives_of links slot now a b s t (Err e) was (inl h) = inl (h.0, ap (λ (l : Link). slice_set links slot l) h.1 ∙ set_same links slot a was)
  gives_of links slot now a b s t (Err e) was (inr (inl h)) =
      inr (inl (record { request = h.request; answers = h.answers; turned = h.turned; change = record { before = a; after = b; was = was; is = refl; makes = h.moved } }))
  gives_of links slot now a b s t (Err e) was (inr (inr h)) = inr (inr (record { fault = h.fault; same = h.same; change = record { before = a; after = b; was = was; is = refl; makes = h.moved } }))
