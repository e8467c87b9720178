-- The subcommand of a parse, with its rows.
use Rattle.std.proofs.Common.{◌≡◌, refl, List, option_map, Option, Some, None}
use Rattle.std.specs.Prelude.{Box}
use Rattle.clap.specs.Matches.{subcommand_name_of}
use Rattle.clap.specs.Walk.{Text, Row}
use Rattle.clap.specs.Simple.{subcommand_rows, subcommand_rows_of}
use Rattle.clap.specs.declared.parser.matches.ArgMatches.{ArgMatches}
use Rattle.clap.specs.declared.parser.matches.SubCommand.{SubCommand}
use Rattle.clap.specs.declared.parser.matches.ArgMatches.TheViews.{out-ArgMatches, out-SubCommand}
use Rattle.std.specs.Box.{box_value}

names : {Z : Type 0} (s : Option (Box SubCommand Z)) → option_map (λ b. (out-SubCommand (box_value b)).name.now) s ≡ option_map (λ p. p.0) (subcommand_rows s)
names None = refl
names (Some b) = refl

pub name_in_rows : (m : ArgMatches) → subcommand_name_of m ≡ option_map (λ p. p.0) (subcommand_rows_of m)
name_in_rows m = names (out-ArgMatches m).subcommand

-- two parts of one thing
pub pair_of : {P : Type 0} (n : P → Text) (w : P → List Row) (r : Option P) (s : Option (Text × List Row)) → option_map n r ≡ option_map (λ p. p.0) s
    → option_map w r ≡ option_map (λ p. p.1) s → option_map (λ p. (n p, w p)) r ≡ s
pair_of n w None None a b = refl
pair_of n w None (Some p) a b = cc
pair_of n w (Some p) None a b = cc
pair_of n w (Some p) (Some (x, y)) a b = cc
