-- A task of words that the parser takes is that of their subcommand.
use Rattle.std.proofs.Common.{◌≡◌, ◌∙◌, ap, ap₂, sym, map, List, Some, None, option_map, codes}
use Rattle.std.proofs.lemmas.Result.{IfOk-weaker, err_from_is_err_and}
use Rattle.clap.specs.Words.{App, fault_of, is_simple_and_free, takes}
use Rattle.clap.specs.Matches.{found_of}
use Rattle.clap.specs.Walk.{Text, rows_of}
use Rattle.clap.specs.Simple.{is_simple, matches_of, subcommand_of}
use Rattle.ts_cli.specs.Shapes.{program}
use Rattle.ts_cli.proofs.Saying.{says_any}
use Rattle.ts_cli.proofs.Parsing.{lab_is_taken, lab_is_given, program_is_free, program_is_simple, some_is}
use Rattle.ts_cli.proofs.command_line.program_task.Goals as goal

pub returns-in_err-matches-clause-lab : goal.returns-in_err-matches-clause-lab
returns-in_err-matches-clause-lab g c asks =
    let taken = ap₂ takes c.in_ok-program.ensures asks.1 ∙ lab_is_taken asks.0 in
    let given = err_from_is_err_and c.from_residual-in_err-matches.result c.from_residual-in_err-matches.ensures.1 in
    rw given.1 (given.2.memory (c.in_err-matches.ensures.passes taken))

pub returns-in-Some-clause-lab : goal.returns-in-Some-clause-lab
returns-in-Some-clause-lab g c asks =
    let words = map g.S.AsStr.text c.args.words.now in
    let parsed = (c.in_ok-matches.ensures.matches (ap is_simple c.in_ok-program.ensures ∙ program_is_simple)).1 in
    let pair : Some (c.in-Some.name.now, rows_of (found_of c.in-Some.inner.now)) ≡ subcommand_of program words =
    ap (option_map (λ p. (p.0.now, rows_of (found_of p.1.now)))) (sym c.in-Some.is) ∙ (c.subcommand_given.ensures ∙ (parsed ∙ ap (λ (a : App). subcommand_of a words) c.in_ok-program.ensures)) in
    let name : Some c.in-Some.name.now ≡ Some (codes "lab") = ap (option_map (λ p. p.0)) pair
    ∙ (ap (λ (w : List Text). option_map (λ p. p.0) (subcommand_of program w)) asks.1
    ∙ lab_is_given asks.0) in
    let done = c.task_named.ensures.lab (some_is name) in
    rw done tt

pub returns-in-Some-clause-taken : goal.returns-in-Some-clause-taken
returns-in-Some-clause-taken g c ok =
    let app = c.in_ok-program.ensures in
    let none = c.in_ok-matches.ensures.kinds (ap is_simple_and_free app ∙ program_is_free) in
    ap (λ (a : App). fault_of a (map g.S.AsStr.text c.args.words.now)) (sym app) ∙ none

pub returns-in-Some-clause-asked : goal.returns-in-Some-clause-asked
returns-in-Some-clause-asked g c =
    let words = map g.S.AsStr.text c.args.words.now in
    let parsed = (c.in_ok-matches.ensures.matches (ap is_simple c.in_ok-program.ensures ∙ program_is_simple)).1 in
    let pair : Some (c.in-Some.name.now, rows_of (found_of c.in-Some.inner.now)) ≡ subcommand_of program words =
    ap (option_map (λ p. (p.0.now, rows_of (found_of p.1.now)))) (sym c.in-Some.is) ∙ (c.subcommand_given.ensures ∙ (parsed ∙ ap (λ (a : App). subcommand_of a words) c.in_ok-program.ensures)) in
    IfOk-weaker c.task_named.result _ _ (λ task says. record {
      name = c.in-Some.name.now;
      rows = rows_of (found_of c.in-Some.inner.now);
      given = sym pair;
      says = says_any (matches_of program words) c.in-Some.name.now (rows_of (found_of c.in-Some.inner.now)) task says;
    }) c.task_named.ensures.says

pub returns-clause-lab : goal.returns-clause-lab
returns-clause-lab g c asks =
    let words = map g.S.AsStr.text c.args.words.now in
    let parsed = (c.in_ok-matches.ensures.matches (ap is_simple c.in_ok-program.ensures ∙ program_is_simple)).1 in
    let none : None ≡ subcommand_of program words =
    ap (option_map (λ p. (p.0.now, rows_of (found_of p.1.now)))) (sym c.in-None.is) ∙ (c.subcommand_given.ensures ∙ (parsed ∙ ap (λ (a : App). subcommand_of a words) c.in_ok-program.ensures)) in
    let bad : None ≡ Some (codes "lab") = ap (option_map (λ p. p.0)) none ∙ (ap (λ (w : List Text). option_map (λ p. p.0) (subcommand_of program w)) asks.1 ∙ lab_is_given asks.0) in
    absurd (none_some (codes "lab") bad)
  where
    none_some : (name : Text) → None ≡ Some name → ⊥
    none_some name e = cc e
