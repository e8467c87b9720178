use Rattle.std.proofs.Common.{take, map, string_bytes}
use Rattle.std.specs.List.{AllByRecursion}
use Rattle.ts_cli.specs.Values.{NamesPeer}
use Rattle.ts_cli.proofs.matched.are_peers.Given as goal

abbrev pub invariant-loop-text : goal.invariant-loop-text
invariant-loop-text l = AllByRecursion NamesPeer (map string_bytes (take l.text-index l.texts))
