-- What is left of frames where there has to be room, and what passes a test among them.
use Rattle.std.proofs.Common.{rules, ◌≡◌, ◌∙◌, ◌-◌, if◌then◌else◌, ℕ, Bool, List, [], ◌∷◌, true, false, length, refl}
use Rattle.std.proofs.lemmas.List.Folds.{list_all-append}
use Rattle.std.specs.Cmp.{second_so}
use Rattle.std.specs.Cmp.Derive.{both_true}
use Rattle.std.specs.Global.{Vec}
use Rattle.std.specs.List.{list_all}
use Rattle.ts_carrier.specs.Mailbox.{has_room, with_frame, with_room}

pub none_waits : (budget : ℕ) (frames : List (Vec ℕ)) → length frames ≡ 0 → frames ≡ with_room budget frames
none_waits budget [] none = refl
none_waits budget (frame ∷ frames) none = search rules

pub enough_room : (budget : ℕ) (frames : List (Vec ℕ)) → has_room budget frames ≡ true → frames ≡ with_room budget frames
enough_room budget [] room = refl
enough_room budget (frame ∷ frames) room = search rules

-- those that are left pass what all do
pub left_pass : (p : Vec ℕ → Bool) (budget : ℕ) (frames : List (Vec ℕ)) → list_all p frames ≡ true → list_all p (with_room budget frames) ≡ true
left_pass p budget [] all = refl
left_pass p budget (frame ∷ frames) all = elim (has_room budget (frame ∷ frames)) as (λ b. list_all p (if b then frame ∷ frames else with_room budget frames) ≡ true) [
  | true ↦ all
  | false ↦ left_pass p budget frames (second_so (p frame) (list_all p frames) all)
]

-- and one more behind them
pub put_passes : (p : Vec ℕ → Bool) (most : ℕ) (frames : List (Vec ℕ)) (frame : Vec ℕ) → list_all p frames ≡ true → p frame ≡ true → list_all p (with_frame most frames frame) ≡ true
put_passes p most frames frame all one =
    let left = with_room (most - length frame.items) frames in
    list_all-append p left (frame ∷ [])
    ∙ both_true (left_pass p (most - length frame.items) frames all) (both_true one refl)
