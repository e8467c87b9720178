-- What was read precedes what is left.
use Rattle.std.proofs.Common.{◌≡◌, ◌<◌, ◌^◌, ◌++◌, map, length, option_map}
use Rattle.std.specs.List.{AllByRecursion}
use Rattle.std.specs.Fmt.{decimal}
use Rattle.ts_script.specs.Pieces.{pieces_of, pieces_behind}
use Rattle.ts_script.proofs.values.numbers_in.Given as goal

abbrev pub invariant-loop-rest : goal.invariant-loop-rest
invariant-loop-rest l = record {
  pieces : pieces_of 44 l.value ≡ map decimal l.numbers.items ++ pieces_behind 44 (option_map (λ rest. rest.now) l.rest);
  ranges : AllByRecursion (λ n. n < 2 ^ 32) l.numbers.items;
}

abbrev pub decreases-loop-rest : goal.decreases-loop-rest
decreases-loop-rest l = length (pieces_behind 44 (option_map (λ rest. rest.now) l.rest))
