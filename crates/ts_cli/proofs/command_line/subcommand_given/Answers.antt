-- The subcommand of a parse, and its rows.
use Rattle.std.proofs.Common.{◌∙◌}
use Rattle.clap.specs.Matches.{found_of}
use Rattle.clap.specs.Walk.{rows_of}
use Rattle.clap.specs.Simple.{subcommand_rows_of}
use Rattle.ts_cli.proofs.Subcommands.{name_in_rows, pair_of}
use Rattle.ts_cli.proofs.command_line.subcommand_given.Goals as goal

pub returns : goal.returns
returns c =
    pair_of (λ p. p.0.now) (λ p. rows_of (found_of p.1.now)) c.subcommand.result (subcommand_rows_of c.args.matches.now)
    (c.subcommand.ensures.name ∙ name_in_rows c.args.matches.now) c.subcommand.ensures.rows
