use Rattle.std.proofs.lemmas.List.{take_rest}
use Rattle.ts_record.proofs.Laws.{no_took}
use Rattle.ts_record.proofs.reading.took_at.Goals as goal

pub returns-in-None : goal.returns-in-None
returns-in-None g c =
    no_took g.C.Codec.octets c.one_encoding.ensures c.args.fields.now _ (take_rest c.args.fields.now 4) (rw c.in-None.is at c.in_ok-ballot.ensures)
