-- A step depends on the force of the facts alone.
use Rattle.std.proofs.Common.{ℕ, suc, max, List, [], Option, Some, None, nat_lt, refl, sym, ap}
use Rattle.std.proofs.Common.{subst, arith, slice_get, length, append-nil, append_assoc, ◌≡◌, ◌∷◌}
use Rattle.std.proofs.Common.{◌++◌, ◌==◌, ◌&&◌, ◌∙◌, if◌then◌else◌}
use Rattle.std.proofs.lemmas.Bool.Decides.{nat_tests}
use Rattle.ts_synod.specs.declared.message.Body.TheVariants.{Accept, Accepted, Ask, Busy, Give, Prepare, Promise}
use Rattle.ts_synod.specs.declared.message.Body.{Body}
use Rattle.ts_synod.specs.declared.message.Fact.{Fact}
use Rattle.ts_synod.specs.declared.message.Message.{Message}
use Rattle.ts_synod.specs.declared.message.Vote.{Vote}
use Rattle.ts_synod.specs.Ballot.{ballot}
use Rattle.ts_synod.specs.Config.{Config, is_node}
use Rattle.ts_synod.specs.Force.{SameForce, ballot_at, command_at, first_some, greater_vote, learned_command, log_of, round_used_by, taken_vote, used_round, vote_at}
use Rattle.ts_synod.specs.Store.{Settling, Store, settling}
use Rattle.ts_synod.specs.Acceptor.{only_messages}
use Rattle.ts_synod.specs.Proposer.{greatest_round, on_growth, propose}
use Rattle.ts_synod.specs.Log.{LogStep, catch_up, has_grown, next_position, on_accepted, on_ask, on_give, prefix}
use Rattle.ts_synod.specs.Node.{CatchUp, Deliver, Done, Effect, Input, Node, Outcome, Prefix}
use Rattle.ts_synod.specs.Node.{Question, Status, Submit, Volatile, log_effect, no_effect, on_body}
use Rattle.ts_synod.specs.Node.{on_delivery, on_question, outcome_reply, output_effect}
use Rattle.ts_synod.specs.Node.{position_for_wanted, reply_only, start_reply, step, submit_at}
use Rattle.ts_synod.specs.Node.{submit_unless_settled, with_reply}
use Rattle.ts_synod.proofs.Sets.{by_test}
use Rattle.ts_synod.proofs.Forces.{promised_push}

pub greater_assoc : {C : Type 0} (x y z : Option (Vote C)) → greater_vote (greater_vote x y) z ≡ greater_vote x (greater_vote y z)
greater_assoc None y z = refl
greater_assoc (Some a) None z = refl
greater_assoc (Some a) (Some b) None = by_test (λ t. greater_vote t None ≡ t) (nat_lt a.ballot b.ballot) (Some b) (Some a) (λ _. refl) (λ _. refl)
greater_assoc (Some a) (Some b) (Some c) = grind (arith, nat_tests)

first_of_assoc : {A : Type 0} (x y z : Option A) → first_some (first_some x y) z ≡ first_some x (first_some y z)
first_of_assoc None y z = refl
first_of_assoc (Some x) y z = refl

pub used_push : {C : Type 0} (fs : List (Fact C)) (f : Fact C) → used_round (fs ++ f ∷ []) ≡ max (used_round fs) (round_used_by f)
used_push [] f = omega arith
used_push (g ∷ fs) f = let h = used_push fs f in omega arith

greater_none : {C : Type 0} (t : Option (Vote C)) → greater_vote t None ≡ t
greater_none None = refl
greater_none (Some v) = refl

first_none : {A : Type 0} (t : Option A) → first_some t None ≡ t
first_none None = refl
first_none (Some v) = refl

pub taken_more : {C : Type 0} (fs : List (Fact C)) (p : ℕ) (f : Fact C) → taken_vote p (fs ++ f ∷ []) ≡ greater_vote (taken_vote p fs) (vote_at p f)
taken_more [] p f = greater_none (vote_at p f)
taken_more (g ∷ fs) p f = ap (greater_vote (vote_at p g)) (taken_more fs p f) ∙ sym (greater_assoc (vote_at p g) (taken_vote p fs) (vote_at p f))

pub learned_push : {C : Type 0} (fs : List (Fact C)) (p : ℕ) (f : Fact C) → learned_command p (fs ++ f ∷ []) ≡ first_some (learned_command p fs) (command_at p f)
learned_push [] p f = first_none (command_at p f)
learned_push (g ∷ fs) p f = ap (first_some (command_at p g)) (learned_push fs p f) ∙ sym (first_of_assoc (command_at p g) (learned_command p fs) (command_at p f))

pub same_push : {C : Type 0} (fs gs : List (Fact C)) (f : Fact C) → SameForce fs gs → SameForce (fs ++ f ∷ []) (gs ++ f ∷ [])
same_push fs gs f h =
    record {
      used = used_push fs f ∙ ap (λ x. max x (round_used_by f)) h.used ∙ sym (used_push gs f);
      promised = λ p. promised_push fs p f ∙ ap (λ x. max x (ballot_at p f)) (h.promised p) ∙ sym (promised_push gs p f);
      taken = λ p. taken_more fs p f ∙ ap (λ x. greater_vote x (vote_at p f)) (h.taken p) ∙ sym (taken_more gs p f);
      learned = λ p. learned_push fs p f ∙ ap (λ x. first_some x (command_at p f)) (h.learned p) ∙ sym (learned_push gs p f);
    }

-- more facts, on both sides
pub same_append : {C : Type 0} (fs gs more : List (Fact C)) → SameForce fs gs → SameForce (fs ++ more) (gs ++ more)
same_append fs gs [] same = subst (λ x. SameForce x (gs ++ [])) (sym (append-nil fs)) (subst (SameForce fs) (sym (append-nil gs)) same)
same_append fs gs (f ∷ more) same =
    subst (λ x. SameForce x (gs ++ f ∷ more)) (append_assoc fs (f ∷ []) more)
    (subst (SameForce ((fs ++ f ∷ []) ++ more)) (append_assoc gs (f ∷ []) more)
    (same_append (fs ++ f ∷ []) (gs ++ f ∷ []) more (same_push fs gs f same)))

pub same_log : {C : Type 0} (fs gs : List (Fact C)) → SameForce fs gs → log_of fs ≡ log_of gs
same_log fs gs same = λ i p. same.learned p i

module _ {C O T Q V : Type 0} (store : Store C O T Q V) (config : Config) (fs gs : List (Fact C)) (same : SameForce fs gs) (volatile : Volatile C) where
  abbrev log_step_effect : ((ℕ → Option C) → LogStep C) → (ℕ → Option C) → ℕ → Effect C
  log_step_effect l k u = log_effect volatile (has_grown k (l k).learned) (l k) (on_growth config u volatile.proposer (position_for_wanted store config (l k).learned volatile.proposer.wanted))

  same_logs : (l : (ℕ → Option C) → LogStep C) → log_step_effect l (log_of fs) (used_round fs) ≡ log_step_effect l (log_of gs) (used_round gs)
  same_logs l = ap (λ k. log_step_effect l k (used_round fs)) (same_log fs gs same) ∙ ap (log_step_effect l (log_of gs)) same.used

  same_body : (from : ℕ) (body : Body C) → on_body store config fs volatile from body ≡ on_body store config gs volatile from body
  same_body from (Prepare p b) = rw (same.promised p, same.taken p) refl
  same_body from (Promise p b t) = refl
  same_body from (Busy p b above) = refl
  same_body from (Accept p b c) = rw (same.promised p, same.taken p) refl
  same_body from (Accepted p b c) = same_logs (λ k. on_accepted config k volatile.received from p b c)
  same_body from (Ask p) = ap (λ k. output_effect volatile (only_messages (on_ask config k from p))) (same_log fs gs same)
  same_body from (Give p c) = same_logs (λ k. on_give config k volatile.received from p c)

  abbrev node_of : List (Fact C) → Node C
  node_of facts = record { facts = facts; volatile = volatile }

  same_proposes : (c : C) (o : Option ℕ) → submit_at store config (node_of fs) c o ≡ submit_at store config (node_of gs) c o
  same_proposes c None = refl
  same_proposes c (Some p) = ap (λ u. start_reply store config volatile p (ballot config.me (suc (greatest_round u volatile.proposer))) (propose config u volatile.proposer p c)) same.used

  same_submits : (c : C) (o : Option (Settling O)) → submit_unless_settled store config (node_of fs) c o ≡ submit_unless_settled store config (node_of gs) c o
  same_submits c (Some s) = refl
  same_submits c None = same_proposes c (next_position (log_of fs)) ∙ ap (λ k. submit_at store config (node_of gs) c (next_position k)) (same_log fs gs same)

  -- the theorem: of two nodes with the same state and facts of one force, each makes the step of the other
  pub same_step : (sent : List (Message C)) (input : Input C Q) → step store config (node_of fs) sent input ≡ step store config (node_of gs) sent input
  same_step sent (Deliver which) = go (slice_get sent which)
    where
      go : (o : Option (Message C)) → with_reply {O = O} {Q = Q} {V = V} (on_delivery store config (node_of fs) o) Done ≡ with_reply (on_delivery store config (node_of gs) o) Done
      go None = refl
      go (Some m) = ap (λ (a : Effect C). with_reply (if (m.to == config.me) && is_node config.nodes m.from then a else no_effect volatile) Done) (same_body m.from m.body)
  same_step sent (Submit c) = same_submits c (settling store (prefix (log_of fs)) (store.id_of c))
      ∙ ap (λ k. submit_unless_settled store config (node_of gs) c
      (settling store (prefix k) (store.id_of c))) (same_log fs gs same)
  same_step sent (Question k q) = ap (λ x. reply_only volatile (on_question store (prefix x) k q)) (same_log fs gs same)
  same_step sent (Outcome id) = ap (λ x. reply_only volatile (outcome_reply store id (settling store (prefix x) id))) (same_log fs gs same)
  same_step sent CatchUp = ap (λ x. with_reply (output_effect volatile (only_messages (catch_up config x))) Done) (same_log fs gs same)
  same_step sent Status = ap (λ x. reply_only volatile (Prefix (length (prefix x)))) (same_log fs gs same)
