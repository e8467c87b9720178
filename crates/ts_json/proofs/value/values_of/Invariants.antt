-- The values so far are those of the texts so far.
use Rattle.std.proofs.Common.{◌≡◌, map, take, string_bytes}
use Rattle.serde_json.specs.View.{view}
use Rattle.ts_json.specs.Object.{texts}
use Rattle.ts_json.proofs.value.values_of.Given as goal

abbrev pub invariant-loop-item : goal.invariant-loop-item
invariant-loop-item l = map view l.values.items ≡ texts (map string_bytes (take l.item-index l.items))
