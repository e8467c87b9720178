-- What is kept stays right, and what is found is right.
use Rattle.std.proofs.Common.{◌≡◌, ℕ, List, [], Bool, sym, subst, inl, inr, arith}
use Rattle.std.specs.Prelude.{Contains}
use Rattle.ts_recent.specs.Recent.{AreAmong, AreAmongOr}
use Rattle.ts_memo.specs.inside.Memo.{IsRight, AreRight}

pub none_right : AreRight []
unfolding AreRight
none_right question good has = absurd (omega (arith, has.1))

-- fewer answers are right
pub fewer_right : (new old : List (List ℕ × Bool)) → AreAmong new old → AreRight old → AreRight new
unfolding AreRight
fewer_right new old among are question good has = are question good (among (question, good) has)

-- what is found is right
pub found_right : (answers : List (List ℕ × Bool)) (question : List ℕ) (good : Bool) → AreRight answers → Contains answers (question, good) → IsRight question good
unfolding AreRight
found_right answers question good are has = are question good has

-- a right answer that is kept leaves them right
pub kept_right : (new old : List (List ℕ × Bool)) (question : List ℕ) (good : Bool) → IsRight question good
    → AreAmongOr (question, good) new old → AreRight old → AreRight new
unfolding AreRight
kept_right new old question good right among are other answer has = elim (among (other, answer) has) [
  | inl was ↦ are other answer was
  | inr one ↦ subst (λ (p : List ℕ × Bool). IsRight p.0 p.1) (sym one) right
]
