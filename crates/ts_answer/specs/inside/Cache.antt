-- What private clauses see of the answers that are cached: under which key, and that each is the
-- answer to its question.
use Rattle.std.specs.Prelude.{◌≡◌, ◌≤◌, ◌<◌, ◌^◌, ◌++◌, ℕ, List, length, take, Contains}
use Rattle.std.specs.Int.{to_be_bytes, w32}
use Rattle.ts_question.specs.Question.{StoreQuestion, QuestionFits, question_encoding}
use Rattle.ts_question.specs.Reply.{NumberedReply, AnswerFits, answer_encoding}
use Rattle.ts_revoke.specs.Question.{Check}
use Rattle.ts_command.specs.declared.command.Command.{Command}
use Rattle.ts_answer.specs.Machine.{IsAnswer}

-- the key of an answer: the four octets of k, and the octets of the question
abbrev pub key_of : ℕ → StoreQuestion → List ℕ
key_of k q = to_be_bytes w32 k ++ question_encoding q

-- at least k commands were taken, and these are the octets of the answer to the question after the
-- first k of them
pub record IsCached (good : Check) (commands : List Command) (k : ℕ) (q : StoreQuestion)
    (octets : List ℕ) : Type 0 where
  pub taken : k ≤ length commands
  pub answer : NumberedReply
  pub fits : AnswerFits answer
  pub encoded : octets ≡ answer_encoding answer
  pub right : IsAnswer good (take k commands) q answer

-- of every pair: whatever k and question have its key, its octets are those of the answer to that
-- question after the first k commands
unfoldable pub AreCached : Check → List Command → List (List ℕ × List ℕ) → Type 0
AreCached good commands pairs = (key octets : List ℕ) → Contains pairs (key, octets)
    → (k : ℕ) (q : StoreQuestion) → k < 2 ^ 32 → QuestionFits q → key ≡ key_of k q
    → IsCached good commands k q octets
