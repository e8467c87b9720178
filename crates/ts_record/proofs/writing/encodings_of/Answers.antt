use Rattle.std.proofs.Common.{arith}
use Rattle.ts_record.proofs.Encodings.{no_longer}
use Rattle.ts_record.proofs.writing.encodings_of.Goals as goal

pub push_encoding-requires : goal.push_encoding-requires
push_encoding-requires g c = omega (arith, c.requires, no_longer g.C.Codec.octets c.args.facts.now c.loop-fact.fact-index c.fact-item.result c.loop-fact-test.true c.fact-item.is)
