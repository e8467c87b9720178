-- Every after_events keeps the invariant.
use Rattle.std.proofs.Common.{ℕ, suc, List, [], Option, Some, None, true, inl, refl, subst, ⊎_elim, arith, slice_get, append-nil, ◌≡◌, ◌<◌, ◌≤◌, ◌∷◌, ◌++◌, ◌==◌, ◌&&◌}
use Rattle.std.proofs.lemmas.Bool.Decides.{nat_tests}
use Rattle.ts_synod.specs.declared.message.Body.TheVariants.{Accept, Accepted, Ask, Busy, Give, Prepare, Promise}
use Rattle.ts_synod.specs.declared.message.Body.{Body}
use Rattle.ts_synod.specs.declared.message.Fact.{Fact}
use Rattle.ts_synod.specs.declared.message.Message.{Message}
use Rattle.ts_synod.specs.Lists.{Has, update_at}
use Rattle.ts_synod.specs.Ballot.{ballot}
use Rattle.ts_synod.specs.Config.{Config, is_node}
use Rattle.ts_synod.specs.Force.{log_of, promised_ballot, taken_vote, used_round}
use Rattle.ts_synod.specs.Store.{Settling, Store, settling}
use Rattle.ts_synod.specs.Acceptor.{Output, on_accept, on_prepare, only_messages}
use Rattle.ts_synod.specs.Proposer.{begin_round, greatest_round, on_busy, rounds_are_exhausted}
use Rattle.ts_synod.specs.Log.{LogStep, catch_up, next_position, on_accepted, on_ask, on_give, prefix}
use Rattle.ts_synod.specs.Node.{CatchUp, Deliver, Effect, Input, Node, Outcome, Question, Status}
use Rattle.ts_synod.specs.Node.{Submit, initial, log_then_proposer, no_effect, on_body, on_delivery}
use Rattle.ts_synod.specs.Node.{on_message, output_effect, proposer_effect, start_reply, step}
use Rattle.ts_synod.specs.Node.{submit_at, submit_unless_settled}
use Rattle.ts_synod.specs.World.{Event, Handle, Restart, Stop, World, after_event, after_events}
use Rattle.ts_synod.specs.World.{after_run, config_of, start_world, submitted_commands}
use Rattle.ts_synod.specs.World.{submitted_by, with_restart, with_step, with_stop}
use Rattle.ts_synod.specs.Laws.{Agrees, IsChosen}
use Rattle.ts_synod.proofs.Sets.{has_left, has_right, has_cases, has_at, by_test}
use Rattle.ts_synod.proofs.Invariant.{Sent, VolatileOk, Safe}
use Rattle.ts_synod.proofs.Kept.{keeps}
use Rattle.ts_synod.proofs.Mild.{Mild, Plain, plain_mild, mild_good, mild_quiet, good_stopped, blank_ok}
use Rattle.ts_synod.proofs.Acceptor.{prepare_right, accept_right}
use Rattle.ts_synod.proofs.Proposer.{starts_mild, begins_starts, busy_starts}
use Rattle.ts_synod.proofs.Asks.{GoodStep, promise_good}
use Rattle.ts_synod.proofs.Log.{Learns, logs_mild, give_learns, ask_plain, catch_up_plain, accepted_learns}
use Rattle.ts_synod.proofs.Agreed.{agreed, was_submitted}

module _ {C O T Q V : Type 0} (store : Store C O T Q V) (at : Config) (P : C → Type 0) (nodes : ℕ → Node C) (sent : List (Message C)) where
  good : (s : Effect C) → Mild at.nodes P nodes sent at.me s → GoodStep at P nodes sent s
  good s h = mild_good at.nodes P nodes sent at.me s h

  same_good : VolatileOk P (nodes at.me).facts sent at.me (nodes at.me).volatile → GoodStep at P nodes sent (no_effect (nodes at.me).volatile)
  same_good ok = good (no_effect (nodes at.me).volatile) (mild_quiet at.nodes P nodes sent at.me (nodes at.me).volatile ok)

  body_good : at.me < 16 → Safe at.nodes P nodes sent → (from : ℕ) (body : Body C)
      → Sent sent from body
      → GoodStep at P nodes sent
      (on_body store at (nodes at.me).facts (nodes at.me).volatile from body)
  body_good low h from body came = go body came
    where
      ok : VolatileOk P (nodes at.me).facts sent at.me (nodes at.me).volatile
      ok = h.volatile at.me low

      plain : (out : Output C) → Plain at.nodes P nodes sent at.me out → GoodStep at P nodes sent (output_effect (nodes at.me).volatile out)
      plain out k = good (output_effect (nodes at.me).volatile out) (plain_mild at.nodes P nodes sent at.me (nodes at.me).volatile out ok k)

      log : (l : LogStep C) → Learns at P nodes sent l → GoodStep at P nodes sent (log_then_proposer store at (nodes at.me).facts (nodes at.me).volatile l)
      log l k = good (log_then_proposer store at (nodes at.me).facts (nodes at.me).volatile l) (logs_mild at P nodes sent store low h (nodes at.me).volatile l ok k)

      go : (body : Body C) → Sent sent from body → GoodStep at P nodes sent (on_body store at (nodes at.me).facts (nodes at.me).volatile from body)
      go (Prepare p b) came = plain (on_prepare at (promised_ballot p (nodes at.me).facts) (taken_vote p (nodes at.me).facts) from p b) (prepare_right at P nodes sent from p b)
      go (Promise p b t) came = promise_good at P nodes sent h (nodes at.me).volatile from p b t ok came
      go (Busy p b above) came =
          good (proposer_effect (nodes at.me).volatile
          (on_busy at (nodes at.me).volatile.proposer p b above))
          (starts_mild at P nodes sent (nodes at.me).volatile
          (on_busy at (nodes at.me).volatile.proposer p b above) ok.received
          (busy_starts at P nodes sent (nodes at.me).volatile.proposer p b above ok.proposer))
      go (Accept p b c) came = plain (on_accept at (promised_ballot p (nodes at.me).facts) (taken_vote p (nodes at.me).facts) from p b c) (accept_right at P nodes sent from p b c came)
      go (Accepted p b c) came =
          log (on_accepted at (log_of (nodes at.me).facts) (nodes at.me).volatile.received from p b
          c) (accepted_learns at P nodes sent h (nodes at.me).volatile.received from p b c
          ok.received came)
      go (Ask p) came = plain (only_messages (on_ask at (log_of (nodes at.me).facts) from p)) (ask_plain at P nodes sent h from p)
      go (Give p c) came = log
          (on_give at (log_of (nodes at.me).facts) (nodes at.me).volatile.received from p c)
          (give_learns at P nodes sent h (nodes at.me).volatile.received from p c ok.received came)

  message_good : at.me < 16 → Safe at.nodes P nodes sent → (m : Message C) → Has sent m → GoodStep at P nodes sent (on_message store at (nodes at.me).facts (nodes at.me).volatile m)
  message_good low h m came =
      by_test (GoodStep at P nodes sent) ((m.to == at.me) && is_node at.nodes m.from) (on_body store at (nodes at.me).facts (nodes at.me).volatile m.from m.body) (no_effect (nodes at.me).volatile)
      (λ _. body_good low h m.from m.body (m.to, came))
      (λ _. same_good (h.volatile at.me low))

  submit_good : at.me < 16 → Safe at.nodes P nodes sent → (c : C) → P c → (o : Option (Settling O)) → GoodStep at P nodes sent (submit_unless_settled store at (nodes at.me) c o).effect
  submit_good low h c holds (Some s) = same_good (h.volatile at.me low)
  submit_good low h c holds None = go (next_position (log_of (nodes at.me).facts))
    where
      go : (o : Option ℕ) → GoodStep at P nodes sent (submit_at store at (nodes at.me) c o).effect
      go None = same_good (h.volatile at.me low)
      go (Some p) =
          let node = nodes at.me in
          let u = used_round node.facts in
          let move = begin_round at u node.volatile.proposer p c in
          let b = ballot at.me (suc (greatest_round u node.volatile.proposer)) in
          by_test (λ o. GoodStep at P nodes sent (start_reply store at node.volatile p b o).effect) (rounds_are_exhausted u node.volatile.proposer) None (Some move)
          (λ _. same_good (h.volatile at.me low))
          (λ _. good (proposer_effect node.volatile move)
          (starts_mild at P nodes sent node.volatile move (h.volatile at.me low).received
          (begins_starts at P nodes sent low h node.volatile.proposer p c holds)))

  step_good : at.me < 16 → Safe at.nodes P nodes sent → (input : Input C Q) → ((c : C) → Has (submitted_by input) c → P c) → GoodStep at P nodes sent (step store at (nodes at.me) sent input).effect
  step_good low h (Deliver k) holds = go (slice_get sent k) refl
    where
      go : (o : Option (Message C)) → slice_get sent k ≡ o → GoodStep at P nodes sent (on_delivery store at (nodes at.me) o)
      go None e = same_good (h.volatile at.me low)
      go (Some m) e = message_good low h m (has_at sent k m e)
  step_good low h (Submit c) holds = submit_good low h c (holds c (inl refl)) (settling store (prefix (log_of (nodes at.me).facts)) (store.id_of c))
  step_good low h (Question k q) holds = same_good (h.volatile at.me low)
  step_good low h (Outcome id) holds = same_good (h.volatile at.me low)
  step_good low h CatchUp holds =
      good (output_effect (nodes at.me).volatile
      (only_messages (catch_up at (log_of (nodes at.me).facts))))
      (plain_mild at.nodes P nodes sent at.me (nodes at.me).volatile
      (only_messages (catch_up at (log_of (nodes at.me).facts))) (h.volatile at.me low)
      (catch_up_plain at P nodes sent))
  step_good low h Status holds = same_good (h.volatile at.me low)

abbrev pub SafeWorld : {C O Q V : Type 0} → ℕ → (C → Type 0) → World C O Q V → Type 0
SafeWorld n P w = Safe n P w.nodes w.sent

node_low : (n i : ℕ) → n ≤ 9 → is_node n i ≡ true → i < 16
node_low n i most e = grind (arith, nat_tests)

pub happens_safe : {C O T Q V : Type 0} (n : ℕ) (store : Store C O T Q V) (P : C → Type 0)
    (w : World C O Q V) (e : Event C Q) → n ≤ 9
    → ((c : C) → Has (submitted_commands (e ∷ [])) c → P c) → SafeWorld n P w
    → SafeWorld n P (after_event n store w e)
happens_safe n store P w (Handle i input) most holds h =
    let s = step store (config_of n i) (w.nodes i) w.sent input in
    by_test (SafeWorld n P) (is_node n i) (with_step w i s) w
    (λ e. let low = node_low n i most e in
    keeps n P w.nodes w.sent i s.effect.facts s.effect.messages s.effect.volatile low h
    (step_good store (config_of n i) P w.nodes w.sent low h input
    (λ c k. holds c (has_left (submitted_by input) [] c k))))
    (λ _. h)
happens_safe {C} n store P w (Restart i) most holds h =
    let s : Effect C = no_effect initial in
    by_test (SafeWorld n P) (is_node n i) (with_restart w i) w
    (λ e. let low = node_low n i most e in
    let k = keeps n P w.nodes w.sent i [] [] initial low h (mild_good n P w.nodes w.sent i s (mild_quiet n P w.nodes w.sent i initial (blank_ok n P w.nodes w.sent i (w.nodes i).facts w.sent))) in
    subst (λ (sent : List (Message C)). Safe n P (with_restart w i).nodes sent) (append-nil w.sent)
    (subst (λ (fs : List (Fact C)). Safe n P
    (update_at w.nodes i (record { facts = fs; volatile = initial })) (w.sent ++ []))
    (append-nil (w.nodes i).facts) k))
    (λ _. h)
happens_safe {C} n store P w (Stop i input) most holds h =
    let s = step store (config_of n i) (w.nodes i) w.sent input in
    by_test (SafeWorld n P) (is_node n i) (with_stop w i s.effect.facts) w
    (λ e. let low = node_low n i most e in
    let g = good_stopped n P w.nodes w.sent i s.effect.facts s.effect.messages s.effect.volatile
    (step_good store (config_of n i) P w.nodes w.sent low h input
    (λ c k. holds c (has_left (submitted_by input) [] c k))) in
    let k = keeps n P w.nodes w.sent i s.effect.facts [] initial low h g in
    subst (λ (sent : List (Message C)). Safe n P (with_stop w i s.effect.facts).nodes sent) (append-nil w.sent) k)
    (λ _. h)

pub first_submitted : {C Q : Type 0} (e : Event C Q) (es : List (Event C Q)) (c : C) → Has (submitted_commands (e ∷ [])) c → Has (submitted_commands (e ∷ es)) c
first_submitted (Handle i input) es c h = has_left (submitted_by input) (submitted_commands es) c
    (⊎_elim (λ (k : Has (submitted_by input) c). k) (λ k. absurd k)
    (has_cases (submitted_by input) [] c h))
first_submitted (Restart i) es c h = absurd h
first_submitted (Stop i input) es c h = has_left (submitted_by input) (submitted_commands es) c (⊎_elim (λ (k : Has (submitted_by input) c). k) (λ k. absurd k) (has_cases (submitted_by input) [] c h))

pub rest_submitted : {C Q : Type 0} (e : Event C Q) (es : List (Event C Q)) (c : C) → Has (submitted_commands es) c → Has (submitted_commands (e ∷ es)) c
rest_submitted (Handle i input) es c h = has_right (submitted_by input) (submitted_commands es) c h
rest_submitted (Restart i) es c h = h
rest_submitted (Stop i input) es c h = has_right (submitted_by input) (submitted_commands es) c h

pub run_safe : {C O T Q V : Type 0} (n : ℕ) (store : Store C O T Q V) (P : C → Type 0)
    (es : List (Event C Q)) (w : World C O Q V) → n ≤ 9
    → ((c : C) → Has (submitted_commands es) c → P c) → SafeWorld n P w
    → SafeWorld n P (after_events n store es w)
run_safe n store P [] w most holds h = h
run_safe n store P (e ∷ es) w most holds h =
    run_safe n store P es (after_event n store w e) most (λ c k. holds c (rest_submitted e es c k)) (happens_safe n store P w e most (λ c k. holds c (first_submitted e es c k)) h)

pub start_safe : {C : Type 0} (n : ℕ) (P : C → Type 0) → Safe n P (λ i. record { facts = []; volatile = initial }) []
start_safe n P =
    record {
      promise = λ a p b t s. absurd s.1;
      accepted = λ a p b c s. absurd s.1;
      took = λ a p b c h. absurd h;
      asked = λ a p b c s. absurd s.1;
      one = λ a d p b c e s t. absurd s.1;
      chosen = λ a p c h. absurd h;
      given = λ a p c s. absurd s.1;
      volatile = λ a low. record { proposer = record { round = tt; wanted = λ c e. absurd (cc) }; received = λ p x v e. absurd (cc) };
    }

pub all_safe : {C O T Q V : Type 0} (n : ℕ) (store : Store C O T Q V) (es : List (Event C Q)) → n ≤ 9 → SafeWorld n (λ c. Has (submitted_commands es) c) (after_run n store es)
all_safe {C} n store es most = run_safe n store (λ c. Has (submitted_commands es) c) es start_world most (λ c k. k) (start_safe n (λ c. Has (submitted_commands es) c))

-- the theorems
pub agreement : {C O T Q V : Type 0} (n : ℕ) (store : Store C O T Q V) (es : List (Event C Q)) → n ≤ 9 → Agrees n (after_run n store es).nodes
agreement {C} n store es most = let w = after_run n store es in agreed n (λ c. Has (submitted_commands es) c) w.nodes w.sent (all_safe n store es most)

pub only_submitted : {C O T Q V : Type 0} (n : ℕ) (store : Store C O T Q V) (es : List (Event C Q))
    (p : ℕ) (c : C) → n ≤ 9 → IsChosen n (after_run n store es).nodes p c
    → Has (submitted_commands es) c
only_submitted {C} n store es p c most h = let w = after_run n store es in was_submitted n (λ d. Has (submitted_commands es) d) w.nodes w.sent (all_safe n store es most) p c h
