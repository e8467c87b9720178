use Rattle.std.proofs.Common.{◌≡◌, take}
use Rattle.ts_record.specs.Facts.{encodings}
use Rattle.ts_record.proofs.writing.encodings_of.Given as goal

abbrev pub invariant-loop-fact : goal.invariant-loop-fact
invariant-loop-fact g l = l.octets.items ≡ encodings g.C.Codec.octets (take l.fact-index l.facts)
