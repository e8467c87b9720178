use Rattle.std.proofs.Common.{length}
use Rattle.ts_record.proofs.Laws.{no_more, not_empty}
use Rattle.ts_record.proofs.reading.read_facts.Goals as goal

pub returns-in_default-clause-none : goal.returns-in_default-clause-none
returns-in_default-clause-none g c = λ is.
    no_more g.C.Codec.octets c.one_encoding.ensures c.args.facts.now.items c.loop-rest.facts.items c.args.body.now c.loop-rest.rest.now c.loop-rest.invariant
    (rw c.in_default.is at c.in_ok-fact.ensures) (not_empty (length c.loop-rest.rest.now) c.loop-rest-test.ensures)
