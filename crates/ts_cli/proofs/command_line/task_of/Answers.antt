-- What is asked for is in range.
use Rattle.std.proofs.Common.{map}
use Rattle.std.proofs.lemmas.Result.{IfOk-weaker}
use Rattle.clap.specs.Simple.{matches_of}
use Rattle.ts_cli.specs.CommandLine.{app_in, group_of, words_in}
use Rattle.ts_cli.proofs.Saying.{in_range}
use Rattle.ts_cli.proofs.command_line.task_of.Goals as goal

pub returns-clause-ranges : goal.returns-clause-ranges
returns-clause-ranges g c =
    let words = map g.S.AsStr.text c.args.words.now in
    IfOk-weaker c.task_by_group.result _ _
    (λ task asked. in_range (matches_of (app_in (group_of words)) (words_in (group_of words) words))
    asked.name asked.rows task asked.says) c.task_by_group.ensures.asked
