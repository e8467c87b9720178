-- Each reply that a call of a node gives has a frame.
use Rattle.std.proofs.Common.{◌≡◌, ◌⊎◌, inl, inr, refl, sym, subst, ℕ, ◌<◌, ◌≤◌, Bool, true, false, List, [], ◌∷◌, Option, Some, None, Result, Ok, Err, IfOk, length, arith, if◌then◌else◌}
use Rattle.std.proofs.lemmas.Bool.{leb-false, leb-true}
use Rattle.std.specs.Prelude.{nat_le}
use Rattle.ts_disk.specs.Disk.{State}
use Rattle.ts_synod.specs.declared.message.Fact.{Fact}
use Rattle.ts_synod.specs.declared.message.Message.{Message}
use Rattle.ts_synod.specs.Config.{Config}
use Rattle.ts_synod.specs.Force.{SameForce, log_of}
use Rattle.ts_synod.specs.Laws.{node_with}
use Rattle.ts_synod.specs.Log.{next_position, prefix}
use Rattle.ts_synod.specs.Node as world
use Rattle.ts_synod.specs.Proposer.{ProposerStep}
use Rattle.ts_synod.specs.Store.{Settling, Store, settling}
use Rattle.ts_command.specs.declared.command.Command.{Command}
use Rattle.ts_command.specs.declared.outcome.Outcome.{Outcome}
use Rattle.ts_question.specs.Question.{StoreQuestion}
use Rattle.ts_question.specs.Reply.{NumberedReply}
use Rattle.ts_node.specs.declared.node.Node.{Node}
use Rattle.ts_node.specs.declared.input.Input.{Input}
use Rattle.ts_node.specs.declared.input.Input.TheVariants as inputs
use Rattle.ts_node.specs.declared.input.Output.{Output}
use Rattle.ts_synod.specs.declared.fault.NodeFault.{NodeFault}
use Rattle.ts_node.specs.declared.input.Reply.{Reply}
use Rattle.ts_node.specs.declared.input.Reply.TheVariants as replies
use Rattle.ts_node.specs.declared.turn.StagedFacts.{StagedFacts}
use Rattle.ts_node.specs.Ahead.{IsApart, IsBehind, IsLost, IsStage, IsUnkept, holding}
use Rattle.ts_node.specs.Call.{IsCall}
use Rattle.ts_node.specs.Turn.{IsTurn}
use Rattle.ts_node.specs.Inputs.{IsInput, SaysReply}
use Rattle.ts_node.specs.Node.{Rewrites, config, facts, is_broken, volatile}
use Rattle.ts_command.specs.Octets.{octets_of}
use Rattle.ts_serve.specs.Replies.{HasFrame, IsWithin}
use Rattle.ts_serve.specs.Turn.{Hands}

-- of the world's replies: a prefix that is not yet k is below it
abbrev InRange : world.Reply Outcome StoreQuestion (List Command) → Type 0
InRange (world.NotYet k question m) = (k ≤ 1000000) × (m < k)
InRange other = Unit {0}

bool_cases : {P : Type 0} (b : Bool) → (b ≡ true → P) → (b ≡ false → P) → P
bool_cases true f g = f refl
bool_cases false f g = g refl

framed : (is_answer : List Command → StoreQuestion → NumberedReply → Type 0)
    (r : Reply Outcome NumberedReply) (w : world.Reply Outcome StoreQuestion (List Command))
    → SaysReply is_answer r w → InRange w → HasFrame r
framed is_answer replies.Done w h i = tt
framed is_answer (replies.Started p b) w h i = tt
framed is_answer (replies.Settled p o) w h i = tt
framed is_answer replies.Unknown w h i = tt
framed is_answer (replies.Answered k a) w h i = tt
framed is_answer (replies.Prefix m) w h i = tt
framed is_answer (replies.Compacted p) w h i = tt
framed is_answer (replies.NotYet k m) (world.NotYet at' q p) h i =
    let P : ℕ → ℕ → Type 0 = λ x y. (x ≤ 1000000) × (y < x) in
    subst (λ x. P x m) (sym h.0) (subst (λ y. P at' y) (sym h.1) i)
framed is_answer (replies.NotYet k m) world.Done h i = absurd h
framed is_answer (replies.NotYet k m) (world.Started p b) h i = absurd h
framed is_answer (replies.NotYet k m) (world.Settled id p o) h i = absurd h
framed is_answer (replies.NotYet k m) (world.Unknown id) h i = absurd h
framed is_answer (replies.NotYet k m) (world.Answered a q v) h i = absurd h
framed is_answer (replies.NotYet k m) (world.Prefix p) h i = absurd h
framed is_answer (replies.NotYet k m) world.RoundsExhausted h i = absurd h
framed is_answer (replies.NotYet k m) world.PositionsExhausted h i = absurd h

module _ (store : Store Command Outcome (List Command) StoreQuestion (List Command)) where
  chosen : (b : Bool) (k m : ℕ) (q : StoreQuestion) (v : List Command) → (b ≡ false → (k ≤ 1000000) × (m < k)) → InRange (if b then world.Answered k q v else world.NotYet k q m)
  chosen true k m q v f = tt
  chosen false k m q v f = f refl

  within_prefix : (n : ℕ) → nat_le n n ≡ false → (n ≤ 1000000) × (n < n)
  within_prefix n is = let bad : n < n = leb-false n n is in absurd (omega (arith, bad))

  question_in_range : (cs : List Command) (k : Option ℕ) (q : StoreQuestion) → IsWithin (inputs.Ask k q) → InRange (world.on_question store cs k q)
  question_in_range cs None q within = chosen (nat_le (length cs) (length cs)) (length cs) (length cs) q _ (within_prefix (length cs))
  question_in_range cs (Some k) q within = chosen (nat_le k (length cs)) k (length cs) q _ (λ above. (leb-true k 1000000 within, leb-false k (length cs) above))

  outcome_in_range : (id : List ℕ) (s : Option (Settling Outcome)) → InRange (world.outcome_reply store id s)
  outcome_in_range id None = tt
  outcome_in_range id (Some s) = tt

  module _ (config : Config) (node : world.Node Command) (c : Command) where
    start_in_range : (p b : ℕ) (step : Option (ProposerStep Command)) → InRange (world.start_reply store config node.volatile p b step).reply
    start_in_range p b None = tt
    start_in_range p b (Some step) = tt

    position_in_range : (p : Option ℕ) → InRange (world.submit_at store config node c p).reply
    position_in_range None = tt
    position_in_range (Some p) = start_in_range p _ _

    submit_in_range : (s : Option (Settling Outcome)) → InRange (world.submit_unless_settled store config node c s).reply
    submit_in_range None = position_in_range (next_position (log_of node.facts))
    submit_in_range (Some s) = tt

module _ {D M B : Type 0} (state : D → State)
    (store : Store Command Outcome (List Command) StoreQuestion (List Command)) (basis : M → B)
    (is_answer : B → List Command → StoreQuestion → NumberedReply → Type 0) where
  itself : (fs : List (Fact Command)) → SameForce fs fs
  itself fs = record { used = refl; promised = λ p. refl; taken = λ p. refl; learned = λ p. refl }

  -- the reply says that of the world's step, whatever was sent before
  abbrev Says : Node D Command M → Input Command StoreQuestion → Reply Outcome NumberedReply → Type 0
  Says old input reply = (sent : List (Message Command)) (event : world.Input Command StoreQuestion) → IsInput sent input event
      → SaysReply (is_answer (basis old.machine)) reply (world.step store (config old) (node_with (facts old) (volatile old)) sent event).reply

  reply_framed : (old : Node D Command M) (input : Input Command StoreQuestion)
      (reply : Reply Outcome NumberedReply) → Says old input reply
      → (input ≡ inputs.Compact → HasFrame reply) → IsWithin input → HasFrame reply
  reply_framed old (inputs.Deliver m) reply said compacts within =
      framed (is_answer (basis old.machine)) reply world.Done (said (m ∷ []) (world.Deliver 0) refl) tt
  reply_framed old (inputs.Submit c) reply said compacts within =
      framed (is_answer (basis old.machine)) reply _ (said [] (world.Submit c) refl)
      (submit_in_range store (config old) (node_with (facts old) (volatile old)) c (settling store (prefix (log_of (facts old))) (store.id_of c)))
  reply_framed old (inputs.Ask k q) reply said compacts within =
      framed (is_answer (basis old.machine)) reply _ (said [] (world.Question k q) (refl, refl))
      (question_in_range store (prefix (log_of (facts old))) k q within)
  reply_framed old (inputs.Outcome id) reply said compacts within =
      framed (is_answer (basis old.machine)) reply _ (said [] (world.Outcome id) refl)
      (outcome_in_range store id (settling store (prefix (log_of (facts old))) id))
  reply_framed old inputs.CatchUp reply said compacts within =
      framed (is_answer (basis old.machine)) reply world.Done (said [] world.CatchUp tt) tt
  reply_framed old inputs.Status reply said compacts within =
      framed (is_answer (basis old.machine)) reply _ (said [] world.Status tt) tt
  reply_framed old inputs.Compact reply said compacts within = compacts refl

  rewritten : (old new : Node D Command M) (output : Output Command Outcome NumberedReply) → Rewrites old output new → HasFrame output.reply
  rewritten old new output rewrites = subst HasFrame (sym rewrites.reply) tt

  -- a broken node answers no reply
  called_frame : (old new : Node D Command M) (input : Input Command StoreQuestion)
      (output : Output Command Outcome NumberedReply)
      → IsCall state octets_of store basis is_answer old input (Ok output) new → IsWithin input
      → HasFrame output.reply
  called_frame old new input output call within =
      bool_cases (is_broken old) (λ broken. (let h = call.broken broken in absurd (cc (h.0))))
      (λ whole. reply_framed old input output.reply
      (λ sent event is. (call.step whole (facts old) sent event (itself (facts old)) is).reply)
      (λ is. rewritten old new output (call.compacts whole is).0) within)

  turned_frame : (old new : Node D Command M) (input : Input Command StoreQuestion)
      (output : Output Command Outcome NumberedReply)
      → IsTurn state octets_of store basis is_answer old input (Ok output) new → IsWithin input
      → HasFrame output.reply
  turned_frame old new input output call within =
      bool_cases (is_broken old) (λ broken. (let h = call.broken broken in absurd (cc (h.0))))
      (λ whole. reply_framed old input output.reply
      (λ sent event is. (call.turned whole (facts old) sent event
      (itself (facts old)) is).handles.reply)
      (λ is. rewritten old new output (call.compacts whole is).0) within)

  -- the same of a node that takes the input in memory
  staged_frame : (old new : Node D Command M) (waiting after : List (Fact Command))
      (input : Input Command StoreQuestion) (output : Output Command Outcome NumberedReply)
      → IsStage octets_of store basis is_answer state waiting old input (Ok output) after new
      → IsWithin input → HasFrame output.reply
  staged_frame old new waiting after input output call within = bool_cases (is_broken old) (λ broken. (let h = call.broken broken in absurd (cc (h.0)))) (λ whole. go (call.comes whole))
    where
      go : IsBehind octets_of store basis is_answer waiting old input (Ok output) after new
          ⊎ IsApart octets_of store basis is_answer state waiting old input (Ok output) after new
          ⊎ IsUnkept octets_of store basis is_answer state waiting old input (Ok output) after new
          ⊎ IsLost octets_of store basis is_answer old (Ok output) new → HasFrame output.reply
      go (inl behind) =
          let held = holding old waiting in
          reply_framed held input output.reply (λ sent event is. (behind.taken.turned (facts held) sent event (itself (facts held)) is).0.reply) (λ is. absurd (behind.taken.real is)) within
      go (inr (inl apart)) = turned_frame apart.mid new input output apart.turned within
      go (inr (inr (inl unkept))) = (let h = unkept.is in absurd (cc (h)))
      go (inr (inr (inr lost))) = absurd (cc (lost.fault))

  pub all_framed : (staged : Bool) (old new : Node D Command M)
      (waiting after : StagedFacts Command) (input : Input Command StoreQuestion)
      (result : Result (Output Command Outcome NumberedReply) NodeFault)
      → Hands state store basis is_answer staged old waiting input result new after → IsWithin input
      → IfOk result (λ output. HasFrame output.reply)
  all_framed false old new waiting after input (Ok output) call within = called_frame old new input output call.0 within
  all_framed false old new waiting after input (Err fault) call within = tt
  all_framed true old new waiting after input (Ok output) call within = staged_frame old new waiting.facts.items after.facts.items input output call within
  all_framed true old new waiting after input (Err fault) call within = tt
