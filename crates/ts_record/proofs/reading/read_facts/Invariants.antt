use Rattle.std.proofs.Common.{length}
use Rattle.ts_record.proofs.Laws.{ReadSoFar}
use Rattle.ts_record.proofs.reading.read_facts.Given as goal

abbrev pub invariant-loop-rest : goal.invariant-loop-rest
invariant-loop-rest g l = ReadSoFar g.C.Codec.octets l.fn.facts.items l.facts.items l.body l.rest

abbrev pub decreases-loop-rest : goal.decreases-loop-rest
decreases-loop-rest g l = length l.rest
