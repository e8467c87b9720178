-- The trust store as a state machine of the protocol: the answers after a list of commands.
use Rattle.std.specs.Prelude.{◌≡◌, List, length}
use Rattle.ts_revoke.specs.Question.{Check}
use Rattle.ts_question.specs.Question.{StoreQuestion}
use Rattle.ts_question.specs.Reply.{NumberedReply}
use Rattle.ts_command.specs.declared.command.Command.{Command}
use Rattle.ts_answer.specs.Reply.{IsReply}

-- the answer says after how many commands it holds, and is the reply after these
pub record IsAnswer (good : Check) (commands : List Command) (q : StoreQuestion)
    (answer : NumberedReply) : Type 0 where
  pub k : answer.k ≡ length commands
  pub reply : IsReply good commands q answer.reply
