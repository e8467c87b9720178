-- The reply to a question that path validation or the search answers.
use Rattle.std.proofs.Common.{◌≡◌, ℕ, List, Result, Ok, Err, subst}
use Rattle.std.specs.Prelude.{IfOk}
use Rattle.ts_revoke.specs.Question.{Check}
use Rattle.ts_question.specs.Question.{StoreQuestion}
use Rattle.ts_question.specs.declared.question.Target.{Target}
use Rattle.ts_question.specs.declared.question.Target.TheVariants.{Chain, Search, Store, Log}
use Rattle.ts_question.specs.declared.reply.Reply.{Reply}
use Rattle.ts_question.specs.declared.terms.Terms.{Terms}
use Rattle.ts_store.specs.Store.{store_after}
use Rattle.ts_command.specs.declared.command.Command.{Command}
use Rattle.ts_answer.specs.Parts.{certificates_of, first_part, first_unreadable}
use Rattle.ts_answer.specs.Reply.{IsReply, IsReplyBy, IsReplyTo}
use Rattle.ts_answer.specs.inside.View.{IsJudged}

abbrev asking : Terms → Target → StoreQuestion
asking terms target = record { terms = terms; target = target }

module _ (good : Check) (commands : List Command) where
  by_target : (q : StoreQuestion) (t : Target) (reply : Reply) → IsJudged t → IsReplyBy good (store_after commands).tables q (first_unreadable q) reply → IsReplyTo good commands q t reply
  by_target q (Chain anchor certificates) reply judged is = is
  by_target q (Search certificates) reply judged is = is
  by_target q (Store from) reply judged is = absurd judged
  by_target q (Log from) reply judged is = absurd judged

  of_result : {E : Type 0} (terms : Terms) (t : Target) (r : Result Reply E) → IsJudged t
      → IfOk r (IsReplyBy good (store_after commands).tables (asking terms t)
      (first_unreadable (asking terms t))) → IfOk r (IsReply good commands (asking terms t))
  of_result terms t (Ok reply) judged is = by_target (asking terms t) t reply judged is
  of_result terms t (Err e) judged is = is

  pub judged : {E : Type 0} (q : StoreQuestion) (terms : Terms) (t : Target)
      (certificates : List (List ℕ)) (r : Result Reply E) → terms ≡ q.terms → t ≡ q.target
      → certificates ≡ certificates_of t → IsJudged t
      → IfOk r (IsReplyBy good (store_after commands).tables (asking terms t) (first_part terms certificates)) → IfOk r (IsReply good commands q)
  judged q terms t certificates r same_terms same_target are is_judged is =
      subst (λ (asked : StoreQuestion). IfOk r (IsReply good commands asked)) (λ i. asking (same_terms i) (same_target i))
      (of_result terms t r is_judged (subst (λ (l : List (List ℕ)). IfOk r (IsReplyBy good (store_after commands).tables (asking terms t) (first_part terms l))) are is))
