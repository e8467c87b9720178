use Rattle.std.proofs.Common.{◌≡◌, []}
use Rattle.ts_record.specs.inside.Places.{places}
use Rattle.ts_record.proofs.compacted.empty_places.Given as goal

abbrev pub invariant-loop : goal.invariant-loop
invariant-loop g l = l.table.items ≡ places 0 l.counter []
