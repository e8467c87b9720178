-- A node of a script, and what may reach it.
use Rattle.ts_answer.specs.declared.answers.Answers.{Answers}
use Rattle.ts_disk.specs.Memory.{state_of}
use Rattle.ts_disk.specs.declared.memory.MemDisk.{MemDisk}
use Rattle.ts_node.specs.Inputs.{InputFits}
use Rattle.ts_node.specs.Node.{IsSound}
use Rattle.ts_node.specs.declared.input.Input.{Input}
use Rattle.ts_node.specs.declared.node.Node.{Node}
use Rattle.ts_question.specs.declared.question.Question.{Question}
use Rattle.ts_sig.specs.declared.stand_in.DigestCheck.{DigestCheck}
use Rattle.ts_command.specs.Octets.{octets_of}
use Rattle.ts_command.specs.declared.command.Command.{Command}

-- it is one that opening gave, or that took inputs since
abbrev pub IsSoundNode : Node MemDisk Command (Answers DigestCheck) → Type 0
IsSoundNode node = IsSound state_of octets_of (λ machine. machine.commands) node

-- a node may be sent it
abbrev pub InputIsFit : Input Command Question → Type 0
InputIsFit input = InputFits octets_of input
