-- The question that is made.
use Rattle.std.proofs.Common.{◌≡◌, ◌∙◌, ℕ, List, Some, None, Result, Ok, Err, false, cond, ap, map, reverse, sym, take}
use Rattle.std.proofs.lemmas.List.{take-map}
use Rattle.std.specs.Global.{Vec}
use Rattle.std.specs.Prelude.{MatchResult}
use Rattle.std.specs.Result.{result_ok}
use Rattle.ts_question.specs.Question.{QuestionFits, StoreQuestion, is_within}
use Rattle.ts_question.specs.declared.question.OutOfLimits.{OutOfLimits}

-- a question within its limits, or none
pub made : (asked : StoreQuestion) (r : Result StoreQuestion OutOfLimits)
    → MatchResult r (λ q. (q ≡ asked) × QuestionFits q) (λ o. is_within asked ≡ false)
    → result_ok r ≡ cond (is_within asked) (Some asked) None
made asked (Ok q) is =
    ap Some is.0 ∙ sym (ap (λ b. cond b (Some asked) None) (sym (ap is_within is.0) ∙ is.1.within))
made asked (Err o) is = sym (ap (λ b. cond b (Some asked) None) is)

-- the front of what was sent, the last first
pub turned : (sent : List (Vec ℕ)) (octets : List (List ℕ)) (n : ℕ)
    → map (λ c. c.items) sent ≡ octets
    → reverse (map (λ c. c.items) (take n sent)) ≡ reverse (take n octets)
turned sent octets n is =
    ap reverse (sym (take-map (λ (c : Vec ℕ). c.items) n sent) ∙ ap (take n) is)
