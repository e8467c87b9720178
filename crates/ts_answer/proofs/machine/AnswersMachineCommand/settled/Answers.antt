use Rattle.std.proofs.Common.{◌∙◌, ap, sym}
use Rattle.ts_question.specs.declared.question.Question.{Question}
use Rattle.ts_answer.proofs.Settled.{settled_as, settled_is}
use Rattle.ts_answer.proofs.machine.AnswersMachineCommand.settled.Goals as goal

pub returns-in-Some : goal.returns-in-Some
returns-in-Some g c = ap settled_as (sym c.in-Some.is ∙ c.settled.ensures) ∙ settled_is Question c.args.id.now c.args.self.now.commands

pub returns-in-None : goal.returns-in-None
returns-in-None g c = ap settled_as (sym c.in-None.is ∙ c.settled.ensures) ∙ settled_is Question c.args.id.now c.args.self.now.commands
