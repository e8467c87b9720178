-- What a node keeps of an input that fits can be written in one body.
use Rattle.std.proofs.Common.{◌≡◌, ◌≤◌, ◌<◌, ◌+◌, ◌++◌, ◌∷◌, ℕ, suc, List, [], Option, Some, None}
use Rattle.std.proofs.Common.{Result, Ok, Err, IsErrOf, Bool, true, false, nat_lt, is_some, length}
use Rattle.std.proofs.Common.{refl, sym, ap, subst, arith, length-append, if◌then◌else◌, ◌==◌, ◌&&◌}
use Rattle.std.proofs.lemmas.Bool.Decides.{nat_tests}
use Rattle.std.proofs.lemmas.Grind.{flat_map-append}
use Rattle.ts_synod.specs.declared.message.Body.TheVariants.{Accept, Accepted, Ask, Busy, Give, Prepare, Promise}
use Rattle.ts_synod.specs.declared.message.Body.{Body}
use Rattle.ts_synod.specs.declared.message.Fact.{Fact}
use Rattle.ts_synod.specs.declared.message.Fact.TheVariants.{Chosen, Promised, Took, Used}
use Rattle.ts_synod.specs.declared.message.Message.{Message}
use Rattle.ts_synod.specs.declared.message.Vote.{Vote}
use Rattle.ts_synod.specs.Config.{Config, is_node}
use Rattle.ts_synod.specs.Ballot.{ballot}
use Rattle.ts_synod.specs.Lists.{update_at}
use Rattle.ts_synod.specs.Majority.{is_majority}
use Rattle.ts_synod.specs.Messages.{broadcast, send}
use Rattle.ts_synod.specs.Force.{log_of, promised_ballot, taken_vote, used_round}
use Rattle.ts_synod.specs.Acceptor.{Output, accept, accept_or_repeat, on_accept, on_prepare, only_messages}
use Rattle.ts_synod.specs.Log.{LogStep, ReceivedVotes, ask_back, count_votes, is_vote_in, keep_received, learn, next_position, on_accepted, on_give, prefix, with_vote}
use Rattle.ts_synod.specs.Proposer.{ProposerState, ProposerStep, after_growth, begin_round, drop_wanted, greatest_round, on_growth, propose_again, rounds_are_exhausted}
use Rattle.ts_synod.specs.Store.{Settling, Store, settling}
use Rattle.ts_synod.specs.Node as world
use Rattle.ts_synod.proofs.Sets.{by_test}
use Rattle.ts_record.specs.Facts.{AllFit, IsBallot, IsPosition, fact_encoding, encodings}
use Rattle.std.specs.List.{AllByRecursion}
use Rattle.ts_node.specs.Inputs.{BodyFits, InputFits, IsInput, IsShort, Submits}
use Rattle.ts_node.specs.declared.input.Input.{Input}
use Rattle.ts_node.specs.declared.input.Input.TheVariants as inputs
use Rattle.ts_node.specs.inside.Roles.{facts_in}
use Rattle.ts_node.specs.declared.input.Reply.{Reply}
use Rattle.ts_synod.specs.declared.fault.NodeFault.{NodeFault}
use Rattle.ts_synod.specs.declared.fault.NodeFault.TheVariants.{Broken, DiskFailed, GenerationsExhausted, Memory, PositionsExhausted, RoundsExhausted}
use Rattle.ts_node.specs.declared.plan.Plan.{Plan}
use Rattle.ts_node.specs.declared.roles.Roles.{Roles}
use Rattle.ts_node.proofs.Used.{promise_none}

pub all_more : {X : Type 0} (P : X → Type 0) (xs ys : List X) → AllByRecursion P xs → AllByRecursion P ys → AllByRecursion P (xs ++ ys)
all_more P [] ys a b = b
all_more P (x ∷ xs) ys a b = (a.0, all_more P xs ys a.1 b)

-- the facts fit, and their encodings have at most so many octets
pub record FitIn {C : Type 0} (octets : C → List ℕ) (n : ℕ) (facts : List (Fact C)) : Type 0 where
  pub fit : AllFit octets facts
  pub short : length (encodings octets facts) ≤ n

module _ {C : Type 0} (octets : C → List ℕ) where
  pub none : (n : ℕ) → FitIn octets n []
  none n = record { fit = tt; short = omega arith }

  pub more : (m n : ℕ) (xs ys : List (Fact C)) → FitIn octets m xs → FitIn octets n ys → FitIn octets (m + n) (xs ++ ys)
  more m n xs ys a b = record {
    fit = all_more _ xs ys a.fit b.fit;
    short = let e = ap length (flat_map-append (fact_encoding octets) xs ys) in let f = length-append (encodings octets xs) (encodings octets ys) in let s = a.short in let t = b.short in omega arith;
  }

  pub wider : (m n : ℕ) (xs : List (Fact C)) → m ≤ n → FitIn octets m xs → FitIn octets n xs
  wider m n xs l a = record { fit = a.fit; short = let s = a.short in omega arith }

  used : (r : ℕ) → r < 4294967295 → FitIn octets 5 (Used (suc r) ∷ [])
  used r l = record { fit = (record { from = omega arith; to = omega arith }, tt); short = omega arith }

  promised : (p b : ℕ) → IsPosition p → IsBallot b → FitIn octets 13 (Promised p b ∷ [])
  promised p b at is = record { fit = ((at, is), tt); short = omega arith }

  took : (p b : ℕ) (c : C) → IsPosition p → IsBallot b → IsShort (octets c) → FitIn octets 4194342 (Took p b c ∷ [])
  took p b c at is low = record { fit = ((at, is, record { some = low.some; short = let s = low.short in omega arith }), tt); short = let s = low.short in simp length-append (omega arith) }

  chosen : (p : ℕ) (c : C) → IsPosition p → IsShort (octets c) → FitIn octets 4194334 (Chosen p c ∷ [])
  chosen p c at low = record { fit = ((at, record { some = low.some; short = let s = low.short in omega arith }), tt); short = let s = low.short in simp length-append (omega arith) }

  prepare_fits : (config : Config) (promise : ℕ) (taken : Option (Vote C)) (from p b : ℕ) → IsPosition p → IsBallot b → FitIn octets 4194500 (on_prepare config promise taken from p b).facts
  prepare_fits config promise taken from p b at is =
      by_test (λ (o : Output C). FitIn octets 4194500 o.facts) (nat_lt promise b)
      (record {
        facts = Promised p b ∷ [];
        messages = send config.me from (Promise p b taken)
            ∷ [];
      }) (if nat_lt b promise then only_messages
      (send config.me from (Busy p b promise) ∷ []) else only_messages [])
      (λ _. wider 13 4194500 (Promised p b ∷ []) (omega arith) (promised p b at is))
      (λ _. by_test (λ (o : Output C). FitIn octets 4194500 o.facts) (nat_lt b promise)
      (only_messages (send config.me from (Busy p b promise) ∷ [])) (only_messages [])
      (λ _. none 4194500) (λ _. none 4194500))

  repeat_fits : (config : Config) (p b : ℕ) (c : C) (taken : Option (Vote C)) → IsPosition p → IsBallot b → IsShort (octets c) → FitIn octets 4194500 (accept_or_repeat config p b c taken).facts
  repeat_fits config p b c None at is low = wider 4194342 4194500 (Took p b c ∷ []) (omega arith) (took p b c at is low)
  repeat_fits config p b c (Some v) at is low =
      by_test (λ (o : Output C). FitIn octets 4194500 o.facts) (v.ballot == b) (only_messages (broadcast config.me config.nodes (Accepted p b v.command))) (accept config p b c)
      (λ _. none 4194500) (λ _. wider 4194342 4194500 (Took p b c ∷ []) (omega arith) (took p b c at is low))

  accept_fits : (config : Config) (promise : ℕ) (taken : Option (Vote C)) (from p b : ℕ) (c : C)
      → IsPosition p → IsBallot b → IsShort (octets c)
      → FitIn octets 4194500 (on_accept config promise taken from p b c).facts
  accept_fits config promise taken from p b c at is low =
      by_test (λ (o : Output C). FitIn octets 4194500 o.facts) (nat_lt b promise) (only_messages (send config.me from (Busy p b promise) ∷ [])) (accept_or_repeat config p b c taken)
      (λ _. none 4194500) (λ _. repeat_fits config p b c taken at is low)

  begun_fits : (config : Config) (round : ℕ) (state : ProposerState C) (p : ℕ) (c : C) → rounds_are_exhausted round state ≡ false → FitIn octets 5 (begin_round config round state p c).facts
  begun_fits config round state p c left = used (greatest_round round state) (grind (arith, nat_tests))

  again_fits : (config : Config) (round : ℕ) (state : ProposerState C) (c : C) (next : Option ℕ) → FitIn octets 5 (propose_again config round state c next).facts
  again_fits config round state c None = none 5
  again_fits config round state c (Some p) =
      by_test (λ (s : ProposerStep C). FitIn octets 5 s.facts) (rounds_are_exhausted round state)
      (drop_wanted state) (begin_round config round state p c) (λ _. none 5)
      (λ left. begun_fits config round state p c left)

  growth_fits : (config : Config) (round : ℕ) (state : ProposerState C) (wanted : Option C) (next : Option ℕ) → FitIn octets 5 (after_growth config round state wanted next).facts
  growth_fits config round state None next = none 5
  growth_fits config round state (Some c) next = again_fits config round state c next

  learned_fits : (learned : ℕ → Option C) (received : ReceivedVotes C) (p : ℕ) (c : C)
      (messages : List (Message C)) → IsPosition p → IsShort (octets c)
      → FitIn octets 4194334 (learn learned received p c messages).facts
  learned_fits learned received p c messages at low = chosen p c at low

  accepted_fits : (config : Config) (learned : ℕ → Option C) (received : ReceivedVotes C)
      (from p b : ℕ) (c : C) → IsPosition p → IsShort (octets c)
      → FitIn octets 4194334 (on_accepted config learned received from p b c).facts
  accepted_fits config learned received from p b c at low =
      let votes = with_vote (received p) from (record { ballot = b; command = c }) in
      by_test (λ (s : LogStep C). FitIn octets 4194334 s.facts) (is_some (learned p)) (keep_received learned received) (count_votes config learned received p b c votes)
      (λ _. none 4194334)
      (λ _. by_test (λ (s : LogStep C). FitIn octets 4194334 s.facts)
      (is_majority config.nodes (λ a. is_vote_in b (votes a))) (learn learned received p c [])
      (keep_received learned (update_at received p votes)) (λ _. chosen p c at low)
      (λ _. none 4194334))

  give_fits : (config : Config) (learned : ℕ → Option C) (received : ReceivedVotes C) (from p : ℕ)
      (c : C) → IsPosition p → IsShort (octets c)
      → FitIn octets 4194334 (on_give config learned received from p c).facts
  give_fits config learned received from p c at low =
      by_test (λ (s : LogStep C). FitIn octets 4194334 s.facts) (is_some (learned p))
      (keep_received learned received)
      (learn learned received p c (ask_back config learned (update_at learned p (Some c)) from))
      (λ _. none 4194334) (λ _. chosen p c at low)

  both_fit : (grown : Bool) (xs ys : List (Fact C)) → FitIn octets 4194334 xs → FitIn octets 5 ys → FitIn octets 4194500 (if grown then xs ++ ys else xs)
  both_fit true xs ys a b = wider 4194339 4194500 (xs ++ ys) (omega arith) (more 4194334 5 xs ys a b)
  both_fit false xs ys a b = wider 4194334 4194500 xs (omega arith) a

  module _ {O T Q V : Type 0} (store : Store C O T Q V) (config : Config) where
    log_fits : (facts : List (Fact C)) (volatile : world.Volatile C) (rule : LogStep C)
        → FitIn octets 4194334 rule.facts
        → FitIn octets 4194500 (world.log_then_proposer store config facts volatile rule).facts
    log_fits facts volatile rule a =
        let next = world.position_for_wanted store config rule.learned volatile.proposer.wanted in
        both_fit _ rule.facts (on_growth config (used_round facts) volatile.proposer next).facts a (growth_fits config (used_round facts) volatile.proposer volatile.proposer.wanted next)

    body_fits : (facts : List (Fact C)) (volatile : world.Volatile C) (from : ℕ) (body : Body C)
        → BodyFits octets body
        → FitIn octets 4194500 (world.on_body store config facts volatile from body).facts
    body_fits facts volatile from (Prepare p b) h = prepare_fits config (promised_ballot p facts) (taken_vote p facts) from p b h.0 h.1
    body_fits facts volatile from (Accept p b c) h = accept_fits config (promised_ballot p facts) (taken_vote p facts) from p b c h.0 h.1 h.2
    body_fits facts volatile from (Promise p b taken) h = subst (FitIn octets 4194500) (sym (promise_none config volatile.proposer from p b taken)) (none 4194500)
    body_fits facts volatile from (Busy p b promised) h = none 4194500
    body_fits facts volatile from (Accepted p b c) h =
        log_fits facts volatile (on_accepted config (log_of facts) volatile.received from p b c)
        (accepted_fits config (log_of facts) volatile.received from p b c h.0 h.1)
    body_fits facts volatile from (Give p c) h = log_fits facts volatile (on_give config (log_of facts) volatile.received from p c) (give_fits config (log_of facts) volatile.received from p c h.0 h.1)
    body_fits facts volatile from (Ask p) h = none 4194500

    message_fits : (facts : List (Fact C)) (volatile : world.Volatile C) (m : Message C) → BodyFits octets m.body → FitIn octets 4194500 (world.on_message store config facts volatile m).facts
    message_fits facts volatile m h =
        by_test (λ (e : world.Effect C). FitIn octets 4194500 e.facts)
        ((m.to == config.me) && is_node config.nodes m.from)
        (world.on_body store config facts volatile m.from m.body) (world.no_effect volatile)
        (λ _. body_fits facts volatile m.from m.body h) (λ _. none 4194500)

    started_fits : (node : world.Node C) (p : ℕ) (c : C) → FitIn octets 4194500 (world.submit_at store config node c (Some p)).effect.facts
    started_fits node p c =
        let used = used_round node.facts in
        let state = node.volatile.proposer in
        by_test (λ (o : Option (ProposerStep C)). FitIn octets 4194500
        (world.start_reply store config node.volatile p
        (ballot config.me (suc (greatest_round used state))) o).effect.facts)
        (rounds_are_exhausted used state) None (Some (begin_round config used state p c))
        (λ _. none 4194500) (λ left. wider 5 4194500 (begin_round config used state p c).facts (omega arith) (begun_fits config used state p c left))

    at_fits : (node : world.Node C) (c : C) (o : Option ℕ) → FitIn octets 4194500 (world.submit_at store config node c o).effect.facts
    at_fits node c None = none 4194500
    at_fits node c (Some p) = started_fits node p c

    unless_fits : (node : world.Node C) (c : C) (o : Option (Settling O)) → FitIn octets 4194500 (world.submit_unless_settled store config node c o).effect.facts
    unless_fits node c (Some s) = none 4194500
    unless_fits node c None = at_fits node c (next_position (log_of node.facts))

    -- what an input that fits makes a node keep
    pub step_fits : (node : world.Node C) (sent : List (Message C)) (input : Input C Q)
        (event : world.Input C Q) → InputFits octets input → IsInput sent input event
        → FitIn octets 4194500 (world.step store config node sent event).effect.facts
    step_fits node sent (inputs.Deliver m) (world.Deliver which) fits is =
        subst (λ (o : Option (Message C)). FitIn octets 4194500
        (world.on_delivery store config node o).facts) (sym is)
        (message_fits node.facts node.volatile m fits)
    step_fits node sent input (world.Submit d) fits is = unless_fits node d (settling store (prefix (log_of node.facts)) (store.id_of d))
    step_fits node sent input (world.Question k q) fits is = none 4194500
    step_fits node sent input (world.Outcome id) fits is = none 4194500
    step_fits node sent input world.CatchUp fits is = none 4194500
    step_fits node sent input world.Status fits is = none 4194500
    step_fits node sent (inputs.Submit c) (world.Deliver which) fits is = absurd is
    step_fits node sent (inputs.Ask k q) (world.Deliver which) fits is = absurd is
    step_fits node sent (inputs.Outcome id) (world.Deliver which) fits is = absurd is
    step_fits node sent inputs.CatchUp (world.Deliver which) fits is = absurd is
    step_fits node sent inputs.Status (world.Deliver which) fits is = absurd is
    step_fits node sent inputs.Compact (world.Deliver which) fits is = absurd is

-- an event of the world that has this input
pub an_event : {C Q : Type 0} (input : Input C Q) → (input ≡ inputs.Compact → ⊥) → (sent : List (Message C)) × (event : world.Input C Q) × IsInput sent input event
an_event (inputs.Deliver m) real = (m ∷ [], world.Deliver 0, refl)
an_event (inputs.Submit c) real = ([], world.Submit c, refl)
an_event (inputs.Ask k q) real = ([], world.Question k q, (refl, refl))
an_event (inputs.Outcome id) real = ([], world.Outcome id, refl)
an_event inputs.CatchUp real = ([], world.CatchUp, tt)
an_event inputs.Status real = ([], world.Status, tt)
an_event inputs.Compact real = absurd (real refl)

-- what a plan keeps
pub plan_fits : {C O Q A : Type 0} (octets : C → List ℕ) (store : Store C O (List C) Q (List C))
    (config : Config) (node : world.Node C) (is_answer : List C → Q → A → Type 0) (roles : Roles C)
    (made : Plan C × Reply O A) (input : Input C Q) → InputFits octets input
    → (input ≡ inputs.Compact → ⊥)
    → ((sent : List (Message C)) (event : world.Input C Q) → IsInput sent input event
    → Submits is_answer roles (Ok made) (world.step store config node sent event))
    → FitIn octets 4194500 (facts_in made.0.change)
plan_fits octets store config node is_answer roles made input fits real h =
    let e = an_event input real in
    subst (FitIn octets 4194500) (sym (h e.0 e.1 e.2).0.facts) (step_fits octets store config node e.0 input e.1 fits e.2)

failure : {C O Q A : Type 0} (is_answer : List C → Q → A → Type 0) (roles : Roles C)
    (step : world.Step C O Q (List C)) (r : Result (Plan C × Reply O A) NodeFault)
    → r ≡ Err DiskFailed → Submits is_answer roles r step → ⊥
failure is_answer roles step (Ok made) is h = absurd (cc)
failure is_answer roles step (Err Memory) is h = absurd (cc)
failure is_answer roles step (Err DiskFailed) is h = h
failure is_answer roles step (Err Broken) is h = h
failure is_answer roles step (Err RoundsExhausted) is h = absurd (cc)
failure is_answer roles step (Err PositionsExhausted) is h = absurd (cc)
failure is_answer roles step (Err GenerationsExhausted) is h = h

-- a plan makes no device call
pub no_failure : {C O Q A X : Type 0} (is_answer : List C → Q → A → Type 0) (roles : Roles C)
    (fault : NodeFault) (step : world.Step C O Q (List C)) → IsErrOf {T = X} (Err fault) DiskFailed
    → Submits is_answer roles (Err fault) step → ⊥
no_failure is_answer roles fault step is h = failure is_answer roles step (Err fault) (let e : fault ≡ DiskFailed = cc in ap Err e) h
