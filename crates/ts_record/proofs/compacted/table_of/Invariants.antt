use Rattle.std.proofs.Common.{◌≡◌, suc, take}
use Rattle.ts_record.specs.Compacted.{last_fact_position}
use Rattle.ts_record.specs.inside.Places.{places}
use Rattle.ts_record.proofs.compacted.table_of.Given as goal

abbrev pub invariant-loop-fact : goal.invariant-loop-fact
invariant-loop-fact g l = l.table.items ≡ places 0 (suc (last_fact_position l.facts)) (take l.fact-index l.facts)
