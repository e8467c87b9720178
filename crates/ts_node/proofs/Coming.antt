-- What a turn comes to.
use Rattle.std.proofs.Common.{◌≡◌, ◌∙◌, ◌⊎◌, ◌==◌, ◌+◌, ◌++◌, ◌∷◌, ℕ, List, [], Bool, true, false}
use Rattle.std.proofs.Common.{Some, Result, Ok, Err, IsErrOf, IfErr, IfOk, OnOk, length, drop}
use Rattle.std.proofs.Common.{slice_get, inl, inr, refl, sym, ap, subst, arith, length-append}
use Rattle.std.proofs.lemmas.Grind.{flat_map-append}
use Rattle.std.specs.List.{list_any}
use Rattle.ts_disk.specs.Disk.{State}
use Rattle.ts_journal.specs.Images.{EveryPair, Member}
use Rattle.ts_synod.specs.declared.message.Fact.{Fact}
use Rattle.ts_synod.specs.declared.message.Message.{Message}
use Rattle.ts_synod.specs.Config.{Config}
use Rattle.ts_synod.specs.Laws.{node_with}
use Rattle.ts_synod.specs.Node as world
use Rattle.ts_synod.specs.Node.{Effect, step}
use Rattle.ts_synod.specs.Store.{Store}
use Rattle.ts_synod.specs.Turn.{turn}
use Rattle.ts_record.specs.Facts.{AllFit, FactFits, fact_encoding, encodings}
use Rattle.ts_synod.specs.declared.fault.NodeFault.{NodeFault}
use Rattle.ts_synod.specs.declared.fault.NodeFault.TheVariants as faults
use Rattle.ts_node.specs.declared.input.Output.{Output}
use Rattle.ts_node.specs.declared.input.Reply.{Reply}
use Rattle.ts_node.specs.declared.node.Node.{Node}
use Rattle.ts_node.specs.declared.plan.Plan.{Plan}
use Rattle.ts_node.specs.declared.roles.Roles.{Roles}
use Rattle.ts_node.specs.declared.turn.Turn.{Turn}
use Rattle.ts_node.specs.Inputs.{SaysReply, Submits}
use Rattle.ts_node.specs.Node.{Compacts, HasFailed, Handles, IsSame, Moments, ToEither, config, facts, member_as, volatile}
use Rattle.ts_node.specs.Roles.{StandFor, config_of, volatile_of}
use Rattle.ts_node.specs.inside.Roles.{Makes, facts_in, volatile_after}
use Rattle.ts_node.specs.inside.Staged.{Comes, FitBehind, HasCome, IsFull, IsSoFar, Stages}
use Rattle.ts_node.specs.Turn.{Ends, EndsBehind, FitTogether, HandlesTurn, IsTurnOf, given_out, has_own, inputs_of}
use Rattle.ts_node.proofs.Fits.{all_more}
use Rattle.ts_node.proofs.Rooms.{all_second}
use Rattle.ts_node.proofs.Turns.{delivered, next, turn_one}

none_left : {X : Type 0} (p : X → Bool) (xs : List X) → list_any p (drop (length xs) xs) ≡ false
none_left p [] = refl
none_left p (x ∷ xs) = none_left p xs

-- facts that a record can keep at once, without the first
pub fit_behind : {C : Type 0} (octets : C → List ℕ) (xs ys : List (Fact C)) (n : ℕ) → n ≡ length (encodings octets xs) → FitTogether octets (xs ++ ys) → FitBehind octets n ys
fit_behind octets xs ys n so_long together =
    let a = ap length (flat_map-append (fact_encoding octets) xs ys) in
    let b = length-append (encodings octets xs) (encodings octets ys) in
    (all_second (FactFits octets) xs ys together.0, let l = together.1 in omega arith)

-- and with them
pub fit_both : {C : Type 0} (octets : C → List ℕ) (xs ys : List (Fact C)) (n : ℕ) → n ≡ length (encodings octets xs) → AllFit octets xs → FitBehind octets n ys → FitTogether octets (xs ++ ys)
fit_both octets xs ys n so_long fit behind =
    let a = ap length (flat_map-append (fact_encoding octets) xs ys) in
    let b = length-append (encodings octets xs) (encodings octets ys) in
    (all_more (FactFits octets) xs ys fit behind.0, let l = behind.1 in omega arith)

module _ {C O Q : Type 0} (octets : C → List ℕ) (store : Store C O (List C) Q (List C)) (k : Config)
    (kept : List (Fact C)) (v : world.Volatile C) (sent : List (Message C))
    (event : world.Input C Q) (roles : Roles C) (now : Turn C)
    (was : IsSoFar store k kept v sent event roles now) where
  -- why a turn ends, behind facts that are to be kept together with its own
  pub ends_of : (before : List (Fact C)) → now.before ≡ length (encodings octets before) → (now.looked ≡ length now.messages.items) ⊎ (now.looked ≡ 64) ⊎ IsFull octets store k kept sent roles now
      → EndsBehind octets store before k kept sent now.looked now.messages.items (turn store k (node_with kept v) sent (inputs_of k.me sent event now.looked now.messages.items))
  ends_of before so_long (inl e) = inl (ap (λ n. list_any (λ m. m.to == k.me) (drop n now.messages.items)) e ∙ none_left (λ m. m.to == k.me) now.messages.items)
  ends_of before so_long (inr (inl e)) = inr (inl e)
  ends_of before so_long (inr (inr full)) =
      let node = node_with kept v in
      let e = (turn store k node sent (inputs_of k.me sent event now.looked now.messages.items)).effect in
      let there : slice_get e.messages now.looked ≡ Some full.message = subst (λ (f : Effect C). slice_get f.messages now.looked ≡ Some full.message) (sym was.effect) full.is in
      let so = delivered store k node sent e now.looked full.message there ∙ ap (λ (f : Effect C). world.on_message store k (kept ++ f.facts) f.volatile full.message) was.effect in
      let same : e.facts ++ (next store k node sent e
      (world.Deliver (length sent + now.looked))).facts ≡ now.facts.items
      ++ (world.on_message store k (kept ++ now.facts.items)
      (volatile_of roles) full.message).facts =
      ap (λ (f : Effect C). e.facts ++ f.facts) so ∙ ap (λ (f : Effect C). f.facts ++ (world.on_message store k (kept ++ now.facts.items) (volatile_of roles) full.message).facts) was.effect in
      inr (inr (λ together. full.full (fit_behind octets before _ now.before so_long (subst (λ fs. FitTogether octets (before ++ fs)) same together))))

-- the first step of a turn
pub begun : {C O Q : Type 0} (store : Store C O (List C) Q (List C)) (kept : List (Fact C))
    (sent : List (Message C)) (event : world.Input C Q) (roles0 roles1 : Roles C) (plan : Plan C)
    (now : Turn C) → StandFor roles0 kept
    → Makes roles0 plan (step store (config_of roles0) (node_with kept (volatile_of roles0)) sent event).effect
    → ((fs : List (Fact C)) → StandFor roles0 fs → StandFor roles1 (fs ++ facts_in plan.change)) → volatile_of roles1 ≡ volatile_after roles0 plan.change → config_of roles1 ≡ config_of roles0
    → now.facts.items ≡ facts_in plan.change → now.messages.items ≡ plan.messages.items → now.looked ≡ 0
    → IsSoFar store (config_of roles0) kept (volatile_of roles0) sent event roles1 now
begun store kept sent event roles0 roles1 plan now stood makes stand vol conf is messages looked = record {
  stand = subst (λ fs. StandFor roles1 (kept ++ fs)) (sym is) (stand kept stood);
  same = conf;
  effect = ap (λ j. (turn store (config_of roles0) (node_with kept (volatile_of roles0)) sent (inputs_of (config_of roles0).me sent event j now.messages.items)).effect) looked
      ∙ turn_one store (config_of roles0) (node_with kept (volatile_of roles0)) sent event
      ∙ (λ i. record { facts = (sym makes.facts ∙ sym is) i; messages = (sym makes.messages ∙ sym messages) i; volatile = (sym makes.volatile ∙ sym vol) i });
}

-- a turn of one step
pub one_step : {C O Q : Type 0} (store : Store C O (List C) Q (List C)) (kept : List (Fact C))
    (sent : List (Message C)) (event : world.Input C Q) (roles : Roles C) (plan : Plan C)
    (made : List (Message C))
    → Makes roles plan (step store (config_of roles) (node_with kept (volatile_of roles)) sent event).effect
    → (turn store (config_of roles) (node_with kept (volatile_of roles)) sent
    (inputs_of (config_of roles).me sent event 0 made)).effect ≡
    record {
      facts = facts_in plan.change;
      messages = plan.messages.items;
      volatile =
          volatile_after roles plan.change;
    }
one_step store kept sent event roles plan made makes =
    turn_one store (config_of roles) (node_with kept (volatile_of roles)) sent event ∙ (λ i. record { facts = sym makes.facts i; messages = sym makes.messages i; volatile = sym makes.volatile i })

-- a turn whose first step is made, from the node before it
pub stages_from : {D C M O A : Type 0} (reply : Reply O A) (looked : ℕ) (made : List (Message C))
    (more : List (Fact C)) (then' : world.Volatile C) (before after : List (Fact C))
    (old new : Node D C M) (roles : Roles C) (machine : M) → config_of roles ≡ config_of old.roles
    → (r : Result (Output C O A) NodeFault) → IfErr r (λ fault. fault ≡ faults.Broken)
    → Stages (record old { roles = roles; machine = machine }) reply looked made more then' before r after new → Stages old reply looked made more then' before r after new
stages_from reply looked made more then' before after old new roles machine conf (Ok output) only h = (h.0, h.1, h.2, h.3 ∙ ap (λ (k : Config). given_out k.me looked made) conf)
stages_from reply looked made more then' before after old new roles machine conf (Err faults.Memory) only h = absurd (cc)
stages_from reply looked made more then' before after old new roles machine conf (Err faults.Broken) only h = h
stages_from reply looked made more then' before after old new roles machine conf (Err faults.DiskFailed) only h = absurd h
stages_from reply looked made more then' before after old new roles machine conf (Err faults.RoundsExhausted) only h = absurd h
stages_from reply looked made more then' before after old new roles machine conf (Err faults.PositionsExhausted) only h = absurd h
stages_from reply looked made more then' before after old new roles machine conf (Err faults.GenerationsExhausted) only h = absurd h

module _ {D C M O A : Type 0} (state : D → State) (reply : Reply O A) (looked : ℕ) (made : List (Message C)) (more : List (Fact C)) (then' : world.Volatile C) (old new : Node D C M) where
  pub given_of : (r : Result (Output C O A) NodeFault) → Comes state old reply looked made more then' r new → IfOk r (λ output. output.messages.items ≡ given_out (config old).me looked made)
  given_of (Ok output) h = h.3
  given_of (Err fault) h = tt

  failure : (f : NodeFault) → f ≡ faults.DiskFailed → Comes {O = O} {A = A} state old reply looked made more then' (Err f) new → (new.kept.broken ≡ true) × HasFailed state old new
  failure faults.DiskFailed e h = h
  failure faults.Memory e h = absurd (cc)
  failure faults.Broken e h = absurd (cc)
  failure faults.RoundsExhausted e h = absurd (cc)
  failure faults.PositionsExhausted e h = absurd (cc)
  failure faults.GenerationsExhausted e h = absurd (cc)

  pub failed_of : (r : Result (Output C O A) NodeFault) → r ≡ Err faults.DiskFailed → Comes state old reply looked made more then' r new → (new.kept.broken ≡ true) × HasFailed state old new
  failed_of (Ok output) e h = absurd (cc)
  failed_of (Err f) e h = failure f (cc) h

pub moments_from : {D C M : Type 0} (state : D → State) (octets : C → List ℕ) (old : Node D C M)
    (more : List (Fact C)) (new : Node D C M) (roles : Roles C) (machine : M)
    → config_of roles ≡ config_of old.roles
    → Moments state octets (record old { roles = roles; machine = machine }) more new
    → Moments state octets old more new
moments_from state octets old more new roles machine conf h =
    subst (λ (w : Member). EveryPair (ToEither octets w (facts old) more) (state old.kept.a) (state old.kept.b) (state new.kept.a) (state new.kept.b)) (ap member_as conf) h

pub compact_given : {D C M O A : Type 0} (old new : Node D C M) (r : Result (Output C O A) NodeFault) → Compacts old r new → IfOk r (λ output. output.messages.items ≡ [])
compact_given old new (Ok output) h = h.messages
compact_given old new (Err fault) h = tt

module _ {D C M O Q A B : Type 0} (state : D → State) (octets : C → List ℕ) (store : Store C O (List C) Q (List C)) (basis : M → B) (is_answer : B → List C → Q → A → Type 0)
    (old : Node D C M) (kept : List (Fact C)) (sent : List (Message C)) (event : world.Input C Q) where
  -- an input that was refused before anything was changed
  pub refused_turn : (fault : NodeFault) (roles : Roles C) (new : Node D C M)
      → Submits (is_answer (basis old.machine)) roles (Err fault)
      (step store (config old) (node_with kept (volatile old)) sent event) → IsSame old new
      → HandlesTurn (is_answer (basis old.machine)) old (Err fault) [] new (turn store (config old) (node_with kept (volatile old)) sent (event ∷ []))
  refused_turn faults.Memory roles new h same = same
  refused_turn faults.RoundsExhausted roles new h same = (h, same)
  refused_turn faults.PositionsExhausted roles new h same = (h, same)
  refused_turn faults.DiskFailed roles new h same = absurd h
  refused_turn faults.Broken roles new h same = absurd h
  refused_turn faults.GenerationsExhausted roles new h same = absurd h

  -- the same of a call
  pub refused_call : (fault : NodeFault) (roles : Roles C) (new : Node D C M)
      → Submits (is_answer (basis old.machine)) roles (Err fault)
      (step store (config old) (node_with kept (volatile old)) sent event) → IsSame old new
      → Handles (is_answer (basis old.machine)) old (Err fault) new (step store (config old) (node_with kept (volatile old)) sent event)
  refused_call faults.Memory roles new h same = same
  refused_call faults.RoundsExhausted roles new h same = (h, same)
  refused_call faults.PositionsExhausted roles new h same = (h, same)
  refused_call faults.DiskFailed roles new h same = absurd h
  refused_call faults.Broken roles new h same = absurd h
  refused_call faults.GenerationsExhausted roles new h same = absurd h

  module _ (roles : Roles C) (machine : M) (conf : config_of roles ≡ config_of old.roles)
      (vol : volatile_of roles ≡ volatile_of old.roles) (plan : Plan C) (reply : Reply O A)
      (result : Result (Output C O A) NodeFault) (new : Node D C M)
      (come : HasCome state octets store (record old { roles = roles; machine = machine }) plan reply result new) (stand : StandFor roles kept)
      (makes : Makes roles plan
      (step store (config old) (node_with kept (volatile old)) sent event).effect)
      (said : SaysReply (is_answer (basis old.machine)) reply
      (step store (config old) (node_with kept (volatile old)) sent event).reply) where
    effect_at : (turn store (config old) (node_with kept (volatile old)) sent
        (inputs_of (config old).me sent event come.looked come.made)).effect ≡
        record { facts = come.more; messages = come.made; volatile = come.then' }
    effect_at =
        subst (λ w. (turn store (config old) (node_with kept w) sent
        (inputs_of (config old).me sent event come.looked come.made)).effect ≡
        record { facts = come.more; messages = come.made; volatile = come.then' }) vol
        (subst (λ (k : Config).
        (turn store k (node_with kept (volatile_of roles)) sent
        (inputs_of k.me sent event come.looked come.made)).effect ≡
        record { facts = come.more; messages = come.made; volatile = come.then' }) conf
        (come.so kept sent event stand made_there))
      where
        made_there : Makes roles plan (step store (config_of roles) (node_with kept (volatile_of roles)) sent event).effect
        made_there = subst (λ (k : Config). Makes roles plan
            (step store k (node_with kept (volatile_of roles)) sent event).effect) (sym conf)
            (subst (λ w. Makes roles plan
            (step store (config old) (node_with kept w) sent event).effect) (sym vol) makes)

    handles_at : (r : Result (Output C O A) NodeFault) → Comes state (record old { roles = roles; machine = machine }) reply come.looked come.made come.more come.then' r new
        → HandlesTurn (is_answer (basis old.machine)) old r come.made new (turn store (config old) (node_with kept (volatile old)) sent (inputs_of (config old).me sent event come.looked come.made))
    handles_at (Ok output) h = record {
      facts = h.0 ∙ ap (λ (e : Effect C). facts old ++ e.facts) (sym effect_at);
      volatile = h.1 ∙ ap (λ (e : Effect C). e.volatile) (sym effect_at);
      same = ap (λ (e : Effect C). e.messages) (sym effect_at);
      reply = subst (λ r. SaysReply (is_answer (basis old.machine)) r (step store (config old) (node_with kept (volatile old)) sent event).reply) (sym h.2) said;
    }
    handles_at (Err faults.Memory) h = record { kept = h.kept; volatile = h.volatile ∙ vol; ahead = h.ahead }
    handles_at (Err faults.Broken) h = h
    handles_at (Err faults.DiskFailed) h = h.0
    handles_at (Err faults.RoundsExhausted) h = absurd h
    handles_at (Err faults.PositionsExhausted) h = absurd h
    handles_at (Err faults.GenerationsExhausted) h = absurd h

    ends_at : (r : Result (Output C O A) NodeFault)
        → OnOk r ((fs : List (Fact C)) (before : List (Message C)) (e : world.Input C Q)
        → StandFor roles fs → Makes roles plan
        (step store (config_of roles) (node_with fs (volatile_of roles)) before e).effect
        → Ends octets store (config_of roles) fs before come.looked come.made
        (turn store (config_of roles) (node_with fs (volatile_of roles)) before
        (inputs_of (config_of roles).me before e come.looked come.made)))
        → OnOk r (Ends octets store (config old) kept sent come.looked come.made
        (turn store (config old) (node_with kept (volatile old)) sent
        (inputs_of (config old).me sent event come.looked come.made)))
    ends_at (Ok output) h =
        subst (λ w. Ends octets store (config old) kept sent come.looked come.made (turn store (config old) (node_with kept w) sent (inputs_of (config old).me sent event come.looked come.made))) vol
        (subst (λ (k : Config). Ends octets store k kept sent come.looked come.made (turn store k (node_with kept (volatile_of roles)) sent (inputs_of k.me sent event come.looked come.made))) conf
        (h kept sent event stand made_there))
      where
        made_there : Makes roles plan (step store (config_of roles) (node_with kept (volatile_of roles)) sent event).effect
        made_there = subst (λ (k : Config). Makes roles plan
            (step store k (node_with kept (volatile_of roles)) sent event).effect) (sym conf)
            (subst (λ w. Makes roles plan
            (step store (config old) (node_with kept w) sent event).effect) (sym vol) makes)
    ends_at (Err fault) h = tt

    none_own : has_own (config old).me (step store (config old) (node_with kept (volatile old)) sent event).effect.messages ≡ false → has_own (config_of roles).me plan.messages.items ≡ false
    none_own none = subst (λ (k : Config). has_own k.me plan.messages.items ≡ false) (sym conf) (ap (has_own (config old).me) makes.messages ∙ none)

    -- nothing was looked at
    one_at : (looked : ℕ) (made : List (Message C)) → looked ≡ 0
        → (turn store (config old) (node_with kept (volatile old)) sent
        (inputs_of (config old).me sent event looked made)).effect ≡
        (step store (config old) (node_with kept (volatile old)) sent event).effect
    one_at looked made zero =
        ap (λ n. (turn store (config old) (node_with kept (volatile old)) sent
        (inputs_of (config old).me sent event n made)).effect) zero
        ∙ turn_one store (config old) (node_with kept (volatile old)) sent event

    alone_at : (r : Result (Output C O A) NodeFault)
        → Comes state (record old { roles = roles; machine = machine }) reply come.looked come.made
        come.more come.then' r new → come.looked ≡ 0 → (IsErrOf r faults.Broken → ⊥)
        → Handles (is_answer (basis old.machine)) old r new (step store (config old) (node_with kept (volatile old)) sent event)
    alone_at (Ok output) h zero whole =
        let e : (step store (config old) (node_with kept (volatile old)) sent event).effect ≡
        record { facts = come.more; messages = come.made; volatile = come.then' } =
        sym (one_at come.looked come.made zero) ∙ effect_at in
        record {
          facts = h.0 ∙ ap (λ (x : Effect C). facts old ++ x.facts) (sym e);
          volatile = h.1 ∙ ap (λ (x : Effect C). x.volatile) (sym e);
          messages = h.3 ∙ ap (λ n. given_out (config_of roles).me n come.made) zero ∙ ap (λ (x : Effect C). x.messages) (sym e);
          reply = subst (λ x. SaysReply (is_answer (basis old.machine)) x (step store (config old) (node_with kept (volatile old)) sent event).reply) (sym h.2) said;
        }
    alone_at (Err faults.Memory) h zero whole = record { kept = h.kept; volatile = h.volatile ∙ vol; ahead = h.ahead }
    alone_at (Err faults.Broken) h zero whole = absurd (whole refl)
    alone_at (Err faults.DiskFailed) h zero whole = h.0
    alone_at (Err faults.RoundsExhausted) h zero whole = absurd h
    alone_at (Err faults.PositionsExhausted) h zero whole = absurd h
    alone_at (Err faults.GenerationsExhausted) h zero whole = absurd h

    pub come_turned : IsTurnOf state octets store basis is_answer old event result new come.looked come.made kept sent
    come_turned = record {
      handles = handles_at result come.comes;
      moments = subst (λ fs. Moments state octets old fs new) (ap (λ (e : Effect C). e.facts) (sym effect_at)) (moments_from state octets old come.more new roles machine conf come.moments);
      ends = ends_at result come.ends;
      few = come.few;
      alone = λ none. let one = come.alone (none_own none) in alone_at result come.comes one.0 one.1;
    }
