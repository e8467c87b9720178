-- How a client's task ends, by what a node answers.
use Rattle.std.specs.Prelude.{Bool, true, false, ◌&&◌, not, if◌then◌else◌}
use Rattle.ts_command.specs.declared.outcome.Outcome.{Outcome}
use Rattle.ts_command.specs.declared.outcome.Outcome.TheVariants.{Applied, Repeated, Refused}
use Rattle.ts_question.specs.declared.reply.Reply.{Reply}
use Rattle.ts_question.specs.declared.reply.Reply.TheVariants.{Valid, Found}
use Rattle.ts_exchange.specs.declared.ending.Ending.{Ending}
use Rattle.ts_exchange.specs.declared.ending.Ending.TheVariants as ended

-- a command that was refused; one that was applied, now or before, ends well
abbrev pub ending_of : Outcome → Ending
ending_of Applied = ended.Well
ending_of (Repeated position) = ended.Well
ending_of (Refused refusal) = ended.Refused

-- a valid chain is answered
abbrev pub is_valid : Reply → Bool
is_valid (Valid anchor policies) = true
is_valid (Found anchor places policies) = true
is_valid reply = false

-- any answer ends well, unless the check asks for a valid chain
abbrev pub ending_by : Bool → Reply → Ending
ending_by check reply = if check && not (is_valid reply) then ended.Refused else ended.Well
