use Rattle.std.proofs.Common.{◌≡◌, take}
use Rattle.ts_record.proofs.writing.copies.Given as goal

abbrev pub invariant-loop-fact : goal.invariant-loop-fact
invariant-loop-fact g l = l.all.items ≡ take l.fact-index l.facts
