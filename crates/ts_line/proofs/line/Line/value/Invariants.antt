use Rattle.std.proofs.Common.{◌≡◌, ◌++◌, take}
use Rattle.std.specs.List.{flat_map}
use Rattle.ts_line.specs.Names.{value_octet}
use Rattle.ts_line.proofs.line.Line.value.Given as goal

abbrev pub invariant-loop-octet : goal.invariant-loop-octet
invariant-loop-octet l = l.self ≡ l.fn.self ++ flat_map value_octet (take l.octet-index l.octets)
