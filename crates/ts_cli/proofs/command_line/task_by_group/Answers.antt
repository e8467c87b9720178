-- The faults of words are those that their command line finds.
use Rattle.std.proofs.Common.{◌∙◌, ap, sym, map}
use Rattle.clap.specs.Words.{fault_of}
use Rattle.ts_cli.specs.CommandLine.{app_in, words_in}
use Rattle.ts_cli.specs.Shapes.{commands, questions}
use Rattle.ts_cli.specs.declared.group.Group.{Group}
use Rattle.ts_cli.proofs.command_line.task_by_group.Goals as goal

pub returns-in-Program-clause-taken : goal.returns-in-Program-clause-taken
returns-in-Program-clause-taken g c ok =
    let words = map g.S.AsStr.text c.args.words.now in
    ap (λ (group : Group). fault_of (app_in group) (words_in group words)) (sym c.group_of.ensures ∙ c.in-Program.is) ∙ c.program_task.ensures.taken ok

pub returns-in-Command-clause-taken : goal.returns-in-Command-clause-taken
returns-in-Command-clause-taken g c ok =
    let words = map g.S.AsStr.text c.args.words.now in
    ap (λ (group : Group). fault_of (app_in group) (words_in group words)) (sym c.group_of.ensures ∙ c.in-Command.is)
    ∙ (ap (fault_of commands) (sym c.behind_first.ensures) ∙ c.command_task.ensures.taken ok)

pub returns-in-Question-clause-taken : goal.returns-in-Question-clause-taken
returns-in-Question-clause-taken g c ok =
    let words = map g.S.AsStr.text c.args.words.now in
    ap (λ (group : Group). fault_of (app_in group) (words_in group words)) (sym c.group_of.ensures ∙ c.in-Question.is)
    ∙ (ap (fault_of questions) (sym c.behind_first-in-Question.ensures) ∙ c.question_task.ensures.taken ok)
