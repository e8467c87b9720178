-- The frame that says a node's reply.
use Rattle.std.specs.Prelude.{◌≡◌, ◌≤◌, ◌<◌, Bool, true, false, List, [], Result, Ok, Err}
use Rattle.ts_synod.specs.declared.message.Message.{Message}
use Rattle.ts_command.specs.declared.command.Command.{Command}
use Rattle.ts_command.specs.declared.outcome.Outcome.{Outcome}
use Rattle.ts_question.specs.Question.{StoreQuestion, is_position_if_any}
use Rattle.ts_question.specs.Reply.{NumberedReply, numbered_reply}
use Rattle.ts_question.specs.declared.reply.Reply.TheVariants as said
use Rattle.ts_record.specs.declared.progress.Progress.TheVariants.{Working, Switched}
use Rattle.ts_node.specs.declared.input.Input.{Input}
use Rattle.ts_node.specs.declared.input.Input.TheVariants as inputs
use Rattle.ts_node.specs.declared.input.Output.{Output}
use Rattle.ts_node.specs.declared.input.Reply.{Reply}
use Rattle.ts_node.specs.declared.input.Reply.TheVariants as replies
use Rattle.ts_synod.specs.declared.fault.NodeFault.{NodeFault}
use Rattle.ts_synod.specs.declared.fault.NodeFault.TheVariants as node_faults
use Rattle.ts_wire.specs.declared.frame.Frame.{Frame}
use Rattle.ts_wire.specs.declared.frame.Frame.TheVariants as frames

-- the frame that says a node's reply: a step of a rewrite is Done 0 while there are steps left, and
-- Done 1 where the record is on its other disk
abbrev pub reply_frame : Reply Outcome NumberedReply → Frame
reply_frame replies.Done = frames.Done 0
reply_frame (replies.Started position ballot) = frames.Started position ballot
reply_frame (replies.Settled position outcome) = frames.Settled position outcome
reply_frame replies.Unknown = frames.Unknown
reply_frame (replies.NotYet k prefix) = frames.Answer (numbered_reply k (said.NotYet prefix))
reply_frame (replies.Answered k answer) = frames.Answer answer
reply_frame (replies.Prefix prefix) = frames.Prefix prefix
reply_frame (replies.Compacted Working) = frames.Done 0
reply_frame (replies.Compacted Switched) = frames.Done 1

-- what a call of a node is answered: its reply, or NodeFault
abbrev pub answer_to : Result (Output Command Outcome NumberedReply) NodeFault → Frame
answer_to (Ok output) = reply_frame output.reply
answer_to (Err fault) = frames.NodeFault fault

-- the messages of a call
abbrev pub messages_of : Result (Output Command Outcome NumberedReply) NodeFault
    → List (Message Command)
messages_of (Ok output) = output.messages.items
messages_of (Err fault) = []

-- a device failed in a call, or in an earlier one
abbrev pub is_failure : {T : Type 0} → Result T NodeFault → Bool
is_failure (Err node_faults.DiskFailed) = true
is_failure (Err node_faults.Broken) = true
is_failure other = false

-- a question's own number of commands is in its range
abbrev pub IsWithin : Input Command StoreQuestion → Type 0
IsWithin (inputs.Ask k question) = is_position_if_any k ≡ true
IsWithin other = Unit {0}

-- a reply has a frame: a prefix that is not yet k is below it
abbrev pub HasFrame : Reply Outcome NumberedReply → Type 0
HasFrame (replies.NotYet k prefix) = (k ≤ 1000000) × (prefix < k)
HasFrame other = Unit {0}
