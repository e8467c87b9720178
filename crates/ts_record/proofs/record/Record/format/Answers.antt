use Rattle.std.proofs.Common.{[], refl}
use Rattle.ts_record.proofs.record.Record.format.Goals as goal

pub returns-clause-opens : goal.returns-clause-opens
returns-clause-opens g c = λ ca cb left_a left_b. ([], c.in_ok-format.ensures.opens ca cb left_a left_b, record { groups = []; fit = tt; encoded = refl; joined = refl })
