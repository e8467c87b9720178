-- The values so far are those of the rows so far.
use Rattle.std.proofs.Common.{◌≡◌, map, take}
use Rattle.serde_json.specs.View.{view}
use Rattle.ts_json.specs.Members.{named_value, object_of}
use Rattle.ts_json.proofs.member.objects_of.Given as goal

abbrev pub invariant-loop-row : goal.invariant-loop-row
invariant-loop-row l = map view l.values.items ≡ map (λ row. object_of (map named_value row.items)) (take l.row-index l.rows)
