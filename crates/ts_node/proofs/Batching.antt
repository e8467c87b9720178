-- An input in memory, behind facts that wait.
use Rattle.std.proofs.Common.{◌≡◌, ◌∙◌, ◌++◌, ◌∷◌, ℕ, List, [], false, Result, Ok, Err, Option, Some, None, length, refl, sym, ap, subst, arith, append_assoc}
use Rattle.std.proofs.lemmas.List.{append-nil}
use Rattle.ts_synod.specs.declared.message.Fact.{Fact}
use Rattle.ts_synod.specs.declared.message.Message.{Message}
use Rattle.ts_synod.specs.Config.{Config}
use Rattle.ts_synod.specs.Force.{SameForce}
use Rattle.ts_synod.specs.Laws.{node_with}
use Rattle.ts_synod.specs.Node as world
use Rattle.ts_synod.specs.Node.{Effect, step}
use Rattle.ts_synod.specs.Store.{Store}
use Rattle.ts_synod.specs.Turn.{turn}
use Rattle.ts_node.specs.declared.input.Input.{Input}
use Rattle.ts_node.specs.declared.input.Input.TheVariants as kinds
use Rattle.ts_synod.specs.declared.fault.NodeFault.{NodeFault}
use Rattle.ts_synod.specs.declared.fault.NodeFault.TheVariants as faults
use Rattle.ts_node.specs.declared.input.Output.{Output}
use Rattle.ts_node.specs.declared.input.Reply.{Reply}
use Rattle.ts_node.specs.declared.node.Node.{Node}
use Rattle.ts_node.specs.declared.plan.Plan.{Plan}
use Rattle.ts_node.specs.declared.roles.Roles.{Roles}
use Rattle.ts_node.specs.Ahead.{IsNext, IsPlanned, IsTaken, Stays, TakesTurn, holding}
use Rattle.ts_node.specs.Inputs.{IsInput, SaysReply, Submits}
use Rattle.ts_node.specs.Node.{config, facts, volatile}
use Rattle.ts_node.specs.Roles.{StandFor, config_of, volatile_of}
use Rattle.ts_node.specs.inside.Roles.{Makes}
use Rattle.ts_node.specs.inside.Staged.{HasBegun}
use Rattle.ts_node.specs.Turn.{EndsBehind, FitTogether, given_out, inputs_of}
use Rattle.ts_node.proofs.Fits.{an_event}
use Rattle.ts_node.proofs.Images.{stand_force}

module _ {D C M O Q A B : Type 0} (octets : C → List ℕ) (store : Store C O (List C) Q (List C)) (basis : M → B) (is_answer : B → List C → Q → A → Type 0) where
  module _ (old new : Node D C M) (before : List (Fact C)) (input : Input C Q)
      (real : input ≡ kinds.Compact → ⊥) (conf : config new ≡ config old)
      (same : basis new.machine ≡ basis old.machine) (kept : new.kept ≡ old.kept) where
    held : (after more : List (Fact C)) → after ≡ before ++ more → facts (holding new after) ≡ facts (holding old before) ++ more
    held after more is = (λ i. (kept i).facts ++ is i) ∙ sym (append_assoc old.kept.facts before more)

    -- it was refused, before anything was changed
    pub refused_taken : (after : List (Fact C)) → after ≡ before → volatile new ≡ volatile old → (fault : NodeFault)
        → ((kept : List (Fact C)) (sent : List (Message C)) (event : world.Input C Q) → SameForce kept (facts (holding old before)) → IsInput sent input event
        → TakesTurn (is_answer (basis old.machine)) (holding old before) (Err fault) []
        (holding new after) (turn store (config old) (node_with kept (volatile old)) sent
        (inputs_of (config old).me sent event 0 [])))
        → IsTaken octets store basis is_answer before (holding old before) input (Err fault) after (holding new after)
    refused_taken after is vol fault takes = record {
      made = [];
      looked = 0;
      more = [];
      behind = is ∙ sym (append-nil before);
      holds = held after [] (is ∙ sym (append-nil before));
      real = real;
      turned = λ fs sent event force at. (takes fs sent event force at, tt);
      few = omega arith;
      given = tt;
      same_config = conf;
      same_basis = same;
    }

    pub stays : (after : List (Fact C)) → after ≡ before → volatile new ≡ volatile old → Stays (holding old before) (holding new after)
    stays after is vol = record { kept = (λ i. (kept i).facts ++ is i); volatile = vol }

    -- the input itself was refused
    pub plan_refused : (roles : Roles C) (after : List (Fact C)) → after ≡ before → volatile new ≡ volatile old → (fault : NodeFault) → StandFor old.roles (old.kept.facts ++ before)
        → ((facts : List (Fact C)) (sent : List (Message C)) (event : world.Input C Q) → StandFor old.roles facts → IsInput sent input event
        → Submits (is_answer (basis old.machine)) roles (Err fault) (step store (config old) (node_with facts (volatile old)) sent event))
        → IsTaken octets store basis is_answer before (holding old before) input (Err fault) after (holding new after)
    plan_refused roles after is vol fault stand submits =
        refused_taken after is vol fault
        (λ fs sent event force at. go fault fs sent event
        (submits fs sent event (stand_force old.roles (old.kept.facts ++ before) fs force stand)
        at))
      where
        go : (f : NodeFault) (fs : List (Fact C)) (sent : List (Message C))
            (event : world.Input C Q)
            → Submits (is_answer (basis old.machine)) roles (Err f)
            (step store (config old) (node_with fs (volatile old)) sent event)
            → TakesTurn (is_answer (basis old.machine)) (holding old before) (Err f) [] (holding new after) (turn store (config old) (node_with fs (volatile old)) sent (event ∷ []))
        go faults.Memory fs sent event h = stays after is vol
        go faults.RoundsExhausted fs sent event h = (h, stays after is vol)
        go faults.PositionsExhausted fs sent event h = (h, stays after is vol)
        go faults.DiskFailed fs sent event h = absurd h
        go faults.Broken fs sent event h = absurd h
        go faults.GenerationsExhausted fs sent event h = absurd h

    pub refused_next : (roles : Roles C) (after : List (Fact C)) → after ≡ before → volatile new ≡ volatile old → (fault : NodeFault) → StandFor old.roles (old.kept.facts ++ before)
        → ((facts : List (Fact C)) (sent : List (Message C)) (event : world.Input C Q) → StandFor old.roles facts → IsInput sent input event
        → Submits (is_answer (basis old.machine)) roles (Err fault) (step store (config old) (node_with facts (volatile old)) sent event))
        → new.ahead ≡ false → IsNext octets store basis is_answer before old input (Err fault) after new
    refused_next roles after is vol faults.Broken stand submits still = absurd (let e = an_event input real in submits (old.kept.facts ++ before) e.0 e.1 stand e.2)
    refused_next roles after is vol faults.Memory stand submits still = (still, plan_refused roles after is vol faults.Memory stand submits)
    refused_next roles after is vol faults.RoundsExhausted stand submits still = (still, plan_refused roles after is vol faults.RoundsExhausted stand submits)
    refused_next roles after is vol faults.PositionsExhausted stand submits still = (still, plan_refused roles after is vol faults.PositionsExhausted stand submits)
    refused_next roles after is vol faults.DiskFailed stand submits still = (still, plan_refused roles after is vol faults.DiskFailed stand submits)
    refused_next roles after is vol faults.GenerationsExhausted stand submits still = (still, plan_refused roles after is vol faults.GenerationsExhausted stand submits)

  -- a plan for an input, whose roles and machine are others than those before it
  module _ (old : Node D C M) (before : List (Fact C)) (input : Input C Q)
      (real : input ≡ kinds.Compact → ⊥) (stand : StandFor old.roles (old.kept.facts ++ before))
      (roles : Roles C) (machine : M) (conf : config_of roles ≡ config old)
      (vol : volatile_of roles ≡ volatile old)
      (stands : (fs : List (Fact C)) → StandFor old.roles fs → StandFor roles fs) (plan : Plan C) (reply : Reply O A)
      (submits : (fs : List (Fact C)) (sent : List (Message C)) (event : world.Input C Q) → StandFor old.roles fs → IsInput sent input event
      → Makes roles plan (step store (config old) (node_with fs (volatile old)) sent event).effect
      × SaysReply (is_answer (basis old.machine)) reply
      (step store (config old) (node_with fs (volatile old)) sent event).reply) where
    abbrev mid : Node D C M
    mid = record old { roles = roles; machine = machine }

    there : (fs : List (Fact C)) (sent : List (Message C)) (event : world.Input C Q)
        → Makes roles plan (step store (config old) (node_with fs (volatile old)) sent event).effect
        → Makes roles plan (step store (config_of roles) (node_with fs (volatile_of roles)) sent
        event).effect
    there fs sent event makes =
        subst (λ (k : Config). Makes roles plan
        (step store k (node_with fs (volatile_of roles)) sent event).effect) (sym conf)
        (subst (λ w. Makes roles plan (step store (config old) (node_with fs w) sent event).effect)
        (sym vol) makes)

    module _ (fs : List (Fact C)) (sent : List (Message C)) (event : world.Input C Q) (force : SameForce fs (old.kept.facts ++ before)) (at : IsInput sent input event) where
      stood : StandFor old.roles fs
      stood = stand_force old.roles (old.kept.facts ++ before) fs force stand

      back : (P : Config → world.Volatile C → Type 0) → P (config_of roles) (volatile_of roles) → P (config old) (volatile old)
      back P h = subst (λ w. P (config old) w) vol (subst (λ k. P k (volatile_of roles)) conf h)

      turned_ok : (output : Output C O A) (after : List (Fact C)) (new : Node D C M) → new.kept ≡ old.kept → (begun : HasBegun octets store mid plan reply before (Ok output) after new)
          → TakesTurn (is_answer (basis old.machine)) (holding old before) (Ok output) begun.made
          (holding new after) (turn store (config old) (node_with fs (volatile old)) sent
          (inputs_of (config old).me sent event begun.looked begun.made))
      turned_ok output after new kept begun =
          let submitted = submits fs sent event stood at in
          let e : (turn store (config old) (node_with fs (volatile old)) sent
          (inputs_of (config old).me sent event begun.looked begun.made)).effect ≡
          record { facts = begun.more; messages = begun.made; volatile = begun.then' } =
          back (λ k v. (turn store k (node_with fs v) sent
          (inputs_of k.me sent event begun.looked begun.made)).effect ≡
          record { facts = begun.more; messages = begun.made; volatile = begun.then' })
          (begun.so fs sent event (stands fs stood) (there fs sent event submitted.0)) in
          record {
            facts = (λ i. (kept i).facts ++ begun.comes.0 i) ∙ sym (append_assoc old.kept.facts before begun.more) ∙ ap (λ (x : Effect C). (old.kept.facts ++ before) ++ x.facts) (sym e);
            volatile = begun.comes.1 ∙ ap (λ (x : Effect C). x.volatile) (sym e);
            same = ap (λ (x : Effect C). x.messages) (sym e);
            reply = subst (λ r. SaysReply (is_answer (basis old.machine)) r (step store (config old) (node_with fs (volatile old)) sent event).reply) (sym begun.comes.2) submitted.1;
          }

      ends_ok : (output : Output C O A) (after : List (Fact C)) (new : Node D C M) → (begun : HasBegun octets store mid plan reply before (Ok output) after new)
          → EndsBehind octets store before (config old) fs sent begun.looked begun.made
          (turn store (config old) (node_with fs (volatile old)) sent
          (inputs_of (config old).me sent event begun.looked begun.made))
      ends_ok output after new begun =
          back (λ k v. EndsBehind octets store before k fs sent begun.looked begun.made
          (turn store k (node_with fs v) sent (inputs_of k.me sent event begun.looked begun.made)))
          (begun.ends fs sent event (stands fs stood) (there fs sent event (submits fs sent event stood at).0))

    -- its turn was made
    pub ok_taken : (output : Output C O A) (after : List (Fact C)) (new : Node D C M)
        → new.kept ≡ old.kept → config new ≡ config old → basis new.machine ≡ basis old.machine
        → HasBegun octets store mid plan reply before (Ok output) after new
        → IsTaken octets store basis is_answer before (holding old before) input (Ok output) after (holding new after)
    ok_taken output after new kept conf1 same begun = record {
      made = begun.made;
      looked = begun.looked;
      more = begun.more;
      behind = begun.comes.0;
      holds = (λ i. (kept i).facts ++ begun.comes.0 i) ∙ sym (append_assoc old.kept.facts before begun.more);
      real = real;
      turned = λ fs sent event force at. (turned_ok fs sent event force at output after new kept begun, ends_ok fs sent event force at output after new begun);
      few = begun.few;
      given = begun.comes.3 ∙ ap (λ (k : Config). given_out k.me begun.looked begun.made) conf;
      same_config = conf1;
      same_basis = same;
    }

    -- what the input comes to
    pub planned_next : (r : Result (Option (Output C O A)) NodeFault) (after : List (Fact C))
        (new : Node D C M) → old.ahead ≡ false → new.kept ≡ old.kept → config new ≡ config old
        → basis new.machine ≡ basis old.machine
        → IsPlanned octets store mid plan reply before r after new
        → IsNext octets store basis is_answer before old input r after new
    planned_next (Ok (Some output)) after new still kept conf1 same h = (h.0, ok_taken output after new kept conf1 same h.1)
    planned_next (Ok None) after new still kept conf1 same h = (
      ap (λ n. n.ahead) h.1 ∙ still,
      h.0,
      ap volatile h.1 ∙ vol,
      λ fs sent event force at together. h.2 (subst (λ xs. FitTogether octets (before ++ xs)) (sym (submits fs sent event (stood fs sent event force at) at).0.facts) together),
    )
    planned_next (Err faults.Broken) after new still kept conf1 same h = h.comes
    planned_next (Err faults.Memory) after new still kept conf1 same h = (
      h.comes.1.ahead ∙ still,
      refused_taken old new before input real conf1 same kept after h.comes.0
          (h.comes.1.volatile ∙ vol) faults.Memory
          (λ fs sent event force at. stays old new before input real conf1 same kept after h.comes.0
          (h.comes.1.volatile ∙ vol)),
    )
    planned_next (Err faults.DiskFailed) after new still kept conf1 same h = absurd h.comes
    planned_next (Err faults.RoundsExhausted) after new still kept conf1 same h = absurd h.comes
    planned_next (Err faults.PositionsExhausted) after new still kept conf1 same h = absurd h.comes
    planned_next (Err faults.GenerationsExhausted) after new still kept conf1 same h = absurd h.comes
