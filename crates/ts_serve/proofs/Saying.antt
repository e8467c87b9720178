-- Answers that were made, and written.
use Rattle.std.proofs.Common.{◌≡◌, ◌∙◌, sym, ap, subst, ℕ, List, [], ◌∷◌, ◌++◌, Option, Result, Ok, Err, OnOk, OnErr, IfErr, inl, inr, map, length}
use Rattle.std.specs.Prelude.{◌⊎◌}
use Rattle.std.proofs.KnownBytes.{Appends-trans}
use Rattle.std.specs.Io.KnownBytes.{Appends}
use Rattle.ts_synod.specs.declared.message.Message.{Message}
use Rattle.ts_command.specs.declared.command.Command.{Command}
use Rattle.ts_wire.specs.declared.frame.Frame.{Frame}
use Rattle.ts_wire.specs.declared.frame.Frame.TheVariants.{Done, Peer}
use Rattle.ts_serve.specs.declared.fault.ServeFault.{ServeFault}
use Rattle.ts_serve.specs.declared.fault.ServeFault.TheVariants as faults
use Rattle.ts_serve.specs.Text.{AppendsFront, text}
use Rattle.ts_serve.specs.inside.Steps.{Answers, Says}
use Rattle.ts_serve.proofs.Writing.{front_longer, front_then, text-append}

-- only a write or memory failed
abbrev pub IsSending : ServeFault → Type 0
IsSending fault = (fault ≡ faults.Write) ⊎ (fault ≡ faults.Memory)

module _ {S : Type 0} (makes : List Frame → S → Type 0) (before : Option (List ℕ)) (new : S) (answers : List Frame) where
  said_front : (fault : ServeFault) (after : Option (List ℕ)) → IsSending fault → makes answers new → AppendsFront before after (text answers) → Says makes before (Err fault) new after
  said_front fault after (inl is) made front = subst (λ (f : ServeFault). Says makes before (Err f) new after) (sym is) (record { answers = answers; made = made; written = front })
  said_front fault after (inr is) made front = subst (λ (f : ServeFault). Says makes before (Err f) new after) (sym is) (record { answers = answers; made = made; written = front })

  -- all answers are sent at once
  pub said : (r : Result (Unit {0}) ServeFault) (after : Option (List ℕ)) → makes answers new
      → OnOk r (Appends before after (text answers))
      → OnErr r (AppendsFront before after (text answers)) → IfErr r IsSending
      → Says makes before r new after
  said (Ok done) after made sent front fault = (answers, made, sent)
  said (Err e) after made sent front fault = said_front e after fault made front

-- the frames of the messages that wait, and their count
pub all_given : (frames : List Frame) (waiting : List (Message Command)) → frames ≡ map Peer waiting
    → length frames ≡ length waiting → frames ++ Done (length frames) ∷ [] ≡ map Peer waiting
    ++ Done (length waiting) ∷ []
all_given frames waiting is count = ap (λ l. l ++ Done (length frames) ∷ []) is ∙ ap (λ n. map Peer waiting ++ Done n ∷ []) count

-- those before the last are sent
module _ {S : Type 0} (makes : List Frame → S → Type 0) (before : Option (List ℕ)) (new : S) (answers last : List Frame) where
  pub said_part : (fault : ServeFault) (after : Option (List ℕ)) → makes (answers ++ last) new → AppendsFront before after (text answers) → IsSending fault → Says makes before (Err fault) new after
  said_part fault after made front sending =
      said_front makes before new (answers ++ last) fault after sending made
      (subst (AppendsFront before after) (sym (text-append answers last))
      (front_longer before after (text answers) (text last) front))

  -- and the last
  pub said_last : (r : Result (Unit {0}) ServeFault) (mid after : Option (List ℕ)) → makes (answers ++ last) new → Appends before mid (text answers)
      → OnOk r (Appends mid after (text last)) → OnErr r (AppendsFront mid after (text last)) → IfErr r IsSending → Says makes before r new after
  said_last (Ok done) mid after made sent more front fault =
      (answers ++ last, made, subst (Appends before after) (sym (text-append answers last)) (Appends-trans before mid after (text answers) (text last) sent more))
  said_last (Err e) mid after made sent more front fault =
      said_front makes before new (answers ++ last) e after fault made
      (subst (AppendsFront before after) (sym (text-append answers last))
      (front_then before mid after (text answers) (text last) sent front))

module _ {S : Type 0} (turn : S → Frame → List Frame → S → Type 0) where
  -- a request was answered by a turn
  pub answered : (old new : S) (frame : Frame) (r : Result (Unit {0}) ServeFault)
      (before after : Option (List ℕ)) → Says (turn old frame) before r new after
      → Answers turn old frame before r new after
  answered old new frame (Ok done) before after said = said
  answered old new frame (Err fault) before after said = inl said
