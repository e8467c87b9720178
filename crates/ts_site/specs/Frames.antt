-- What a frame of the node says to a request.
use Rattle.std.specs.Prelude.{ℕ, Option, Some, None}
use Rattle.ts_question.specs.Reply.{NumberedReply}
use Rattle.ts_wire.specs.declared.frame.Frame.{Frame}
use Rattle.ts_wire.specs.declared.frame.Frame.TheVariants.{Answer, Prefix}

-- the answer to a question
abbrev pub reply_in : Frame → Option NumberedReply
reply_in (Answer answer) = Some answer
reply_in frame = None

-- how many commands the node knows
abbrev pub prefix_in : Frame → Option ℕ
prefix_in (Prefix prefix) = Some prefix
prefix_in frame = None
