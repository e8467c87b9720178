use Rattle.std.proofs.Common.{◌≡◌, ◌++◌, drop}
use Rattle.ts_record.specs.Compacted.{used_fact}
use Rattle.ts_record.specs.inside.Places.{facts_of_all}
use Rattle.ts_record.proofs.compacted.facts_of.Given as goal

abbrev pub invariant-loop-at : goal.invariant-loop-at
invariant-loop-at g l = l.out.items ++ facts_of_all l.at (drop l.at l.table) ≡ used_fact l.fn.used ++ facts_of_all 0 l.table
