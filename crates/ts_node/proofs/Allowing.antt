-- What the contracts of a node's calls say is what a run allows.
use Rattle.std.proofs.Common.{◌≡◌, ◌∙◌, ◌⊎◌, ◌++◌, ◌∷◌, ℕ, List, [], map, length, take, Result, Ok, Err, inl, inr, refl, sym, ap, subst, ⊎_elim}
use Rattle.std.specs.Prelude.{MatchResult}
use Rattle.ts_disk.specs.Disk.{State}
use Rattle.ts_journal.specs.Images.{Member}
use Rattle.ts_synod.specs.declared.message.Fact.{Fact}
use Rattle.ts_synod.specs.declared.message.Message.{Message}
use Rattle.ts_synod.specs.Config.{Config}
use Rattle.ts_synod.specs.Force.{SameForce}
use Rattle.ts_synod.specs.Laws.{node_with}
use Rattle.ts_synod.specs.Node as world
use Rattle.ts_synod.specs.Node.{step}
use Rattle.ts_synod.specs.Store.{Store}
use Rattle.ts_synod.specs.Turn.{Turn, step_then, turn}
use Rattle.ts_synod.proofs.Same.{same_append, same_step}
use Rattle.ts_record.specs.Facts.{OpensTo}
use Rattle.ts_record.specs.Kept.{member}
use Rattle.ts_node.specs.declared.node.Node.{Node}
use Rattle.ts_node.specs.declared.input.Input.{Input}
use Rattle.ts_node.specs.declared.input.Input.TheVariants as inputs
use Rattle.ts_node.specs.declared.input.Output.{Output}
use Rattle.ts_synod.specs.declared.fault.NodeFault.{NodeFault}
use Rattle.ts_synod.specs.declared.fault.NodeFault.TheVariants as faults
use Rattle.ts_node.specs.Inputs.{IsInput}
use Rattle.ts_node.specs.Node.{Compacts, Does, Handles, IsSame, config, facts, owner, volatile}
use Rattle.ts_node.specs.Call.{IsCall}
use Rattle.ts_node.specs.Turn.{DoesTurn, HandlesTurn, IsTurn, own_numbers}
use Rattle.ts_node.specs.Run.{Group, IsAllowed, called, refused, rewritten, step_at, stopped, turn_of, turned}
use Rattle.ts_node.specs.Allowed.{AllCallsAre, CallsAre, CutsAre, May, RestsAre, StopsAre, TurnsAre, Works, answer_of, stop_of, turn_answer_of}
use Rattle.ts_node.proofs.Breaks.{no_event}
use Rattle.ts_node.proofs.Batches.{all_batches_are}
use Rattle.ts_node.proofs.Images.{from_either, same_refl}

-- a turn is the same for facts of one force
same_turn : {C O T Q V : Type 0} (store : Store C O T Q V) (k : Config) (fs gs : List (Fact C))
    → SameForce fs gs → (v : world.Volatile C) (sent : List (Message C))
    (inputs : List (world.Input C Q))
    → turn store k (node_with fs v) sent inputs ≡ turn store k (node_with gs v) sent inputs
same_turn store k fs gs force v sent [] = refl
same_turn store k fs gs force v sent (input ∷ inputs) =
    let s = step store k (node_with fs v) sent input in
    let t = step store k (node_with gs v) sent input in
    ap (step_then s) (same_turn store k (fs ++ s.effect.facts) (gs ++ s.effect.facts) (same_append fs gs s.effect.facts force) s.effect.volatile (sent ++ s.effect.messages) inputs)
    ∙ ap (λ (x : world.Step _ _ _ _). step_then x (turn store k (node_with (gs ++ x.effect.facts) x.effect.volatile) (sent ++ x.effect.messages) inputs)) (same_step store k fs gs force v sent input)

module _ {D C M O Q A B : Type 0} (state : D → State) (octets : C → List ℕ)
    (store : Store C O (List C) Q (List C)) (commands : M → List C) (basis : M → B)
    (is_answer : B → List C → Q → A → Type 0) (n : ℕ) (rest : B) where
  -- a fault that changes nothing is allowed
  refusal : (s : Group D C M O Q A) (i : ℕ) (new : Node D C M)
      → Works state octets store commands basis is_answer n rest s i
      → config new ≡ config (s.nodes i) → IsSame (s.nodes i) new
      → IsAllowed octets store (is_answer rest) n s (refused i new)
  refusal s i new works same is = (works.node, same, is)

  answers : (s : Group D C M O Q A) (i : ℕ) (new : Node D C M) → Works state octets store commands basis is_answer n rest s i → config new ≡ config (s.nodes i)
      → (result : Result (Output C O A) NodeFault) (step : world.Step C O Q (List C)) → Handles (is_answer rest) (s.nodes i) result new step
      → MatchResult result (λ output. Does (is_answer rest) (s.nodes i) output new step) (λ fault. (fault ≡ faults.DiskFailed) ⊎ IsAllowed octets store (is_answer rest) n s (refused i new))
  answers s i new works same (Ok output) step h = h
  answers s i new works same (Err faults.Memory) step h = inr (refusal s i new works same h)
  answers s i new works same (Err faults.RoundsExhausted) step h = inr (refusal s i new works same h.1)
  answers s i new works same (Err faults.PositionsExhausted) step h = inr (refusal s i new works same h.1)
  answers s i new works same (Err faults.DiskFailed) step h = inl refl
  answers s i new works same (Err faults.Broken) step h = absurd h
  answers s i new works same (Err faults.GenerationsExhausted) step h = absurd h

  -- an input that an event belongs to is no compaction
  call_of : (s : Group D C M O Q A) (i : ℕ) (input : Input C Q) (event : world.Input C Q)
      (output : Output C O A) (new : Node D C M) → IsInput s.sent input event
      → May state octets store commands basis is_answer n rest s (called i input output new)
      → May state octets store commands basis is_answer n rest s (answer_of i input output new)
  call_of s i (inputs.Deliver m) event output new is h = h
  call_of s i (inputs.Submit c) event output new is h = h
  call_of s i (inputs.Ask k q) event output new is h = h
  call_of s i (inputs.Outcome id) event output new is h = h
  call_of s i inputs.CatchUp event output new is h = h
  call_of s i inputs.Status event output new is h = h
  call_of s i inputs.Compact event output new is h = absurd (no_event s.sent inputs.Compact event refl is)

  halt_of : (s : Group D C M O Q A) (i : ℕ) (input : Input C Q) (event : world.Input C Q)
      (a b : List ℕ) (opened : Node D C M) → IsInput s.sent input event
      → May state octets store commands basis is_answer n rest s (stopped i input a b opened)
      → May state octets store commands basis is_answer n rest s (stop_of i input a b opened)
  halt_of s i (inputs.Deliver m) event a b opened is h = h
  halt_of s i (inputs.Submit c) event a b opened is h = h
  halt_of s i (inputs.Ask k q) event a b opened is h = h
  halt_of s i (inputs.Outcome id) event a b opened is h = h
  halt_of s i inputs.CatchUp event a b opened is h = h
  halt_of s i inputs.Status event a b opened is h = h
  halt_of s i inputs.Compact event a b opened is h = absurd (no_event s.sent inputs.Compact event refl is)

  turn_with : (s : Group D C M O Q A) (i : ℕ) (input : Input C Q) (event : world.Input C Q)
      (output : Output C O A) (made : List (Message C)) (new : Node D C M)
      → IsInput s.sent input event
      → May state octets store commands basis is_answer n rest s (turned i input output made new)
      → May state octets store commands basis is_answer n rest s
      (turn_answer_of i input output made new)
  turn_with s i (inputs.Deliver m) event output made new is h = h
  turn_with s i (inputs.Submit c) event output made new is h = h
  turn_with s i (inputs.Ask k q) event output made new is h = h
  turn_with s i (inputs.Outcome id) event output made new is h = h
  turn_with s i inputs.CatchUp event output made new is h = h
  turn_with s i inputs.Status event output made new is h = h
  turn_with s i inputs.Compact event output made new is h = absurd (no_event s.sent inputs.Compact event refl is)

  compacted : (s : Group D C M O Q A) (i : ℕ) (new : Node D C M) → Works state octets store commands basis is_answer n rest s i → config new ≡ config (s.nodes i)
      → (result : Result (Output C O A) NodeFault) → Compacts (s.nodes i) result new
      → MatchResult result (λ output. May state octets store commands basis is_answer n rest s
      (rewritten i output new))
      (λ fault. (fault ≡ faults.DiskFailed)
      ⊎ May state octets store commands basis is_answer n rest s (refused i new))
  compacted s i new works same (Ok output) h = (works.node, same, h)
  compacted s i new works same (Err faults.Memory) h = inr (refusal s i new works same h)
  compacted s i new works same (Err faults.GenerationsExhausted) h = inr (refusal s i new works same h.1)
  compacted s i new works same (Err faults.DiskFailed) h = inl refl
  compacted s i new works same (Err faults.Broken) h = absurd h
  compacted s i new works same (Err faults.RoundsExhausted) h = absurd h
  compacted s i new works same (Err faults.PositionsExhausted) h = absurd h

  called_is : (s : Group D C M O Q A) (i : ℕ) (input : Input C Q) (event : world.Input C Q)
      (result : Result (Output C O A) NodeFault) (new : Node D C M)
      → Works state octets store commands basis is_answer n rest s i → IsInput s.sent input event
      → IsCall state octets store basis is_answer (s.nodes i) input result new
      → MatchResult result (λ output. May state octets store commands basis is_answer n rest s
      (answer_of i input output new))
      (λ fault. (fault ≡ faults.DiskFailed)
      ⊎ May state octets store commands basis is_answer n rest s (refused i new))
  called_is s i input event (Ok output) new works is call = call_of s i input event output new is (
    works.node,
    call.same_config,
    event,
    is,
    λ kept force. subst
        (λ b. Handles (is_answer b) (s.nodes i) (Ok output) new
        (step_at octets store (is_answer rest) n s i kept event)) works.rests
        (call.step works.whole kept s.sent event force is),
  )
  called_is s i input event (Err fault) new works is call =
      answers s i new works call.same_config (Err fault) (step_at octets store (is_answer rest) n s i (facts (s.nodes i)) event)
      (subst (λ b. Handles (is_answer b) (s.nodes i) (Err fault) new
      (step_at octets store (is_answer rest) n s i (facts (s.nodes i)) event)) works.rests
      (call.step works.whole (facts (s.nodes i)) s.sent event (same_refl (facts (s.nodes i))) is))

  calls_are : CallsAre state octets store commands basis is_answer n rest
  calls_are s i input result new works (inl is) call =
      subst (λ x. MatchResult result
      (λ output. May state octets store commands basis is_answer n rest s
      (answer_of i x output new))
      (λ fault. (fault ≡ faults.DiskFailed)
      ⊎ May state octets store commands basis is_answer n rest s (refused i new))) (sym is)
      (compacted s i new works call.same_config result (call.compacts works.whole is).0)
  calls_are s i input result new works (inr (event, is)) call = called_is s i input event result new works is call

  stops_are : StopsAre state octets store commands basis is_answer n rest
  stops_are s i input result new a b opened works (inl is) call left at =
      subst (λ x. May state octets store commands basis is_answer n rest s (stop_of i x a b opened)) (sym is)
      (works.node, (call.compacts works.whole is).1 a b left.0 left.1, at)
  stops_are s i input result new a b opened works (inr (event, is)) call left at = halt_of s i input event a b opened is
      (works.node, event, is, λ kept force. call.moments works.whole kept s.sent event force is a b left.0 left.1, at)

  -- the fault of a turn
  turn_fault : (s : Group D C M O Q A) (i : ℕ) (new : Node D C M) (made : List (Message C))
      (t : Turn C O Q (List C)) → Works state octets store commands basis is_answer n rest s i
      → config new ≡ config (s.nodes i)
      → (fault : NodeFault) → HandlesTurn (is_answer rest) (s.nodes i) (Err fault) made new t
      → (fault ≡ faults.DiskFailed) ⊎ (fault ≡ faults.Broken) ⊎ May state octets store commands basis is_answer n rest s (refused i new)
  turn_fault s i new made t works same faults.Memory h = inr (inr (refusal s i new works same h))
  turn_fault s i new made t works same faults.RoundsExhausted h = inr (inr (refusal s i new works same h.1))
  turn_fault s i new made t works same faults.PositionsExhausted h = inr (inr (refusal s i new works same h.1))
  turn_fault s i new made t works same faults.DiskFailed h = inl refl
  turn_fault s i new made t works same faults.Broken h = inr (inl refl)
  turn_fault s i new made t works same faults.GenerationsExhausted h = absurd h

  turn_is : (s : Group D C M O Q A) (i : ℕ) (input : Input C Q) (event : world.Input C Q)
      (result : Result (Output C O A) NodeFault) (new : Node D C M)
      → Works state octets store commands basis is_answer n rest s i → IsInput s.sent input event
      → IsTurn state octets store basis is_answer (s.nodes i) input result new
      → MatchResult result (λ output. (made : List (Message C)) × May state octets store commands basis is_answer n rest s (turn_answer_of i input output made new))
      (λ fault. (fault ≡ faults.DiskFailed) ⊎ (fault ≡ faults.Broken) ⊎ May state octets store commands basis is_answer n rest s (refused i new))
  turn_is s i input event (Ok output) new works is call =
      let more = own_numbers (config (s.nodes i)).me (length s.sent) (take call.looked call.made) in (
        call.made,
        turn_with s i input event output call.made new is (
          works.node,
          call.same_config,
          event,
          is,
          more,
          λ kept force. subst
              (λ b. DoesTurn (is_answer b) (s.nodes i) output call.made new
              (turn_of octets store (is_answer rest) n s i kept event more)) works.rests
              (call.turned works.whole kept s.sent event force is).handles,
        ),
      )
  turn_is s i input event (Err fault) new works is call =
      let t = turn_of octets store (is_answer rest) n s i (facts (s.nodes i)) event (own_numbers (config (s.nodes i)).me (length s.sent) (take call.looked call.made)) in
      turn_fault s i new call.made t works call.same_config fault
      (subst (λ b. HandlesTurn (is_answer b) (s.nodes i) (Err fault) call.made new t) works.rests (call.turned works.whole (facts (s.nodes i)) s.sent event (same_refl (facts (s.nodes i))) is).handles)

  compacts_turn : (s : Group D C M O Q A) (i : ℕ) (new : Node D C M) (result : Result (Output C O A) NodeFault)
      → MatchResult result (λ output. May state octets store commands basis is_answer n rest s
      (rewritten i output new))
      (λ fault. (fault ≡ faults.DiskFailed)
      ⊎ May state octets store commands basis is_answer n rest s (refused i new))
      → MatchResult result (λ output. (made : List (Message C)) × May state octets store commands basis is_answer n rest s (rewritten i output new))
      (λ fault. (fault ≡ faults.DiskFailed) ⊎ (fault ≡ faults.Broken) ⊎ May state octets store commands basis is_answer n rest s (refused i new))
  compacts_turn s i new (Ok output) h = ([], h)
  compacts_turn s i new (Err fault) h = ⊎_elim (λ d. inl d) (λ r. inr (inr r)) h

  turns_are : TurnsAre state octets store commands basis is_answer n rest
  turns_are s i input result new works (inl is) call =
      subst (λ x. MatchResult result
      (λ output. (made : List (Message C))
      × May state octets store commands basis is_answer n rest s
      (turn_answer_of i x output made new))
      (λ fault. (fault ≡ faults.DiskFailed) ⊎ (fault ≡ faults.Broken)
      ⊎ May state octets store commands basis is_answer n rest s (refused i new))) (sym is)
      (compacts_turn s i new result (compacted s i new works call.same_config result (call.compacts works.whole is).0))
  turns_are s i input result new works (inr (event, is)) call = turn_is s i input event result new works is call

  cuts_are : CutsAre state octets store commands basis is_answer n rest
  cuts_are s i input result new a b opened works (inl is) call left at = inl (works.node, (call.compacts works.whole is).1 a b left.0 left.1, at)
  cuts_are s i input result new a b opened works (inr (event, is)) call left at =
      let old = s.nodes i in
      let fs = facts old in
      let more = own_numbers (config old).me (length s.sent) (take call.looked call.made) in
      let t = turn_of octets store (is_answer rest) n s i fs event more in
      let same = λ (kept : List (Fact C)) (force : SameForce kept fs). same_turn store (config old) kept fs force (volatile old) s.sent (event ∷ map world.Deliver more) in
      ⊎_elim
      (λ (before : OpensTo octets (owner old) fs a b). inl (works.node, (fs, before, same_refl fs), at))
      (λ (after : OpensTo octets (owner old) (fs ++ t.effect.facts) a b). inr (
        t.effect.messages,
        (
          works.node,
          event,
          is,
          more,
          λ kept force. (
            ap (λ (x : Turn C O Q (List C)). x.effect.messages) (sym (same kept force)),
            subst (λ (x : Turn C O Q (List C)). OpensTo octets (owner old) (fs ++ x.effect.facts) a b) (sym (same kept force)) after,
          ),
          at,
        ),
      ))
      ((call.turned works.whole fs s.sent event (same_refl fs) is).moments a b left.0 left.1)

  rests_are : RestsAre state octets store commands basis is_answer n rest
  rests_are s i a b opened works sound la lb at =
      let old = s.nodes i in
      let w = sound works.whole in
      let opens = subst (λ (m : Member). OpensTo octets m (facts old) a b) w.whose (from_either octets (member old.kept) old.kept.swapped (facts old) a b (w.opens a b la lb)) in
      (works.node, (facts old, opens, same_refl (facts old)), at)

  pub all_calls_are : AllCallsAre state octets store commands basis is_answer n rest
  all_calls_are =
      let all = all_batches_are state octets store commands basis is_answer n rest in
      record { calls = calls_are; stops = stops_are; turns = turns_are; cuts = cuts_are; batches = all.0; breaks = all.1; pauses = rests_are }
