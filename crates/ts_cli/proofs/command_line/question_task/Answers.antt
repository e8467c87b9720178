-- A task of words that the parser takes is that of their subcommand.
use Rattle.std.proofs.Common.{◌≡◌, ◌∙◌, ap, sym, map, Some, option_map}
use Rattle.clap.specs.Words.{App, fault_of, is_simple_and_free}
use Rattle.clap.specs.Matches.{found_of}
use Rattle.clap.specs.Walk.{rows_of}
use Rattle.clap.specs.Simple.{is_simple, subcommand_of}
use Rattle.ts_cli.specs.Shapes.{questions}
use Rattle.ts_cli.proofs.Parsing.{questions_are_free, questions_are_simple}
use Rattle.ts_cli.proofs.command_line.question_task.Goals as goal

pub returns-in-Some-clause-taken : goal.returns-in-Some-clause-taken
returns-in-Some-clause-taken g c ok =
    let app = c.in_ok-questions.ensures in
    let none = c.in_ok-matches.ensures.kinds (ap is_simple_and_free app ∙ questions_are_free) in
    ap (λ (a : App). fault_of a (map g.S.AsStr.text c.args.words.now)) (sym app) ∙ none

pub returns-in-Some-clause-asked : goal.returns-in-Some-clause-asked
returns-in-Some-clause-asked g c =
    let words = map g.S.AsStr.text c.args.words.now in
    let parsed = (c.in_ok-matches.ensures.matches (ap is_simple c.in_ok-questions.ensures ∙ questions_are_simple)).1 in
    let pair : Some (c.in-Some.name.now, rows_of (found_of c.in-Some.inner.now)) ≡ subcommand_of questions words =
    ap (option_map (λ p. (p.0.now, rows_of (found_of p.1.now)))) (sym c.in-Some.is) ∙ (c.subcommand_given.ensures ∙ (parsed ∙ ap (λ (a : App). subcommand_of a words) c.in_ok-questions.ensures)) in
    record { name = c.in-Some.name.now; rows = rows_of (found_of c.in-Some.inner.now); given = sym pair; says = c.in_ok-words-in-Some.ensures }
