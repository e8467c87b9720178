-- A task of words that the parser takes is that of their subcommand.
use Rattle.std.proofs.Common.{◌≡◌, ◌∙◌, ap, sym, map, subst, List, Some, option_map}
use Rattle.clap.specs.Words.{App, fault_of, is_simple_and_free}
use Rattle.clap.specs.Matches.{found_of}
use Rattle.clap.specs.Walk.{Row, rows_of}
use Rattle.clap.specs.Simple.{is_simple, matches_of, subcommand_of}
use Rattle.ts_cli.specs.Shapes.{commands}
use Rattle.ts_cli.proofs.Parsing.{commands_are_free, commands_are_simple}
use Rattle.ts_cli.specs.Says.{SaysCommand}
use Rattle.ts_cli.proofs.command_line.command_task.Goals as goal

pub returns-in-Some-clause-taken : goal.returns-in-Some-clause-taken
returns-in-Some-clause-taken g c ok =
    let app = c.in_ok-commands.ensures in
    let none = c.in_ok-matches.ensures.kinds (ap is_simple_and_free app ∙ commands_are_free) in
    ap (λ (a : App). fault_of a (map g.S.AsStr.text c.args.words.now)) (sym app) ∙ none

pub returns-in-Some-clause-asked : goal.returns-in-Some-clause-asked
returns-in-Some-clause-asked g c =
    let words = map g.S.AsStr.text c.args.words.now in
    let parsed = c.in_ok-matches.ensures.matches (ap is_simple c.in_ok-commands.ensures ∙ commands_are_simple) in
    let pair : Some (c.in-Some.name.now, rows_of (found_of c.in-Some.inner.now)) ≡ subcommand_of commands words =
    ap (option_map (λ p. (p.0.now, rows_of (found_of p.1.now)))) (sym c.in-Some.is) ∙ (c.subcommand_given.ensures ∙ (parsed.1 ∙ ap (λ (a : App). subcommand_of a words) c.in_ok-commands.ensures)) in
    let own : rows_of (found_of c.in_ok-matches.matches) ≡ matches_of commands words = parsed.0 ∙ ap (λ (a : App). matches_of a words) c.in_ok-commands.ensures in
    record {
      name = c.in-Some.name.now;
      rows = rows_of (found_of c.in-Some.inner.now);
      given = sym pair;
      says = subst (λ (rows : List Row). SaysCommand rows c.in-Some.name.now (rows_of (found_of c.in-Some.inner.now)) c.in_ok-words-in-Some.words) own c.in_ok-words-in-Some.ensures;
    }
