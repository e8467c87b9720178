use Rattle.std.proofs.Common.{take, map, string_bytes}
use Rattle.std.specs.List.{AllByRecursion}
use Rattle.ts_cli.specs.Values.{IsAddressed}
use Rattle.ts_cli.proofs.matched.are_addresses.Given as goal

abbrev pub invariant-loop-text : goal.invariant-loop-text
invariant-loop-text l = AllByRecursion IsAddressed (map string_bytes (take l.text-index l.texts))
