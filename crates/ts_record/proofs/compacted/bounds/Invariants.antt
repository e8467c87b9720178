use Rattle.std.proofs.Common.{◌≡◌, take}
use Rattle.ts_synod.specs.Force.{used_round}
use Rattle.ts_record.specs.Compacted.{last_fact_position}
use Rattle.ts_record.proofs.compacted.bounds.Given as goal

abbrev pub invariant-loop-fact : goal.invariant-loop-fact
invariant-loop-fact g l = (l.last ≡ last_fact_position (take l.fact-index l.facts)) × (l.used ≡ used_round (take l.fact-index l.facts))
