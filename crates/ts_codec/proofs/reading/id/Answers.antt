use Rattle.std.proofs.Common.{length-take, arith}
use Rattle.ts_codec.proofs.reading.id.Goals as goal

pub returns-in-Err : goal.returns-in-Err
returns-in-Err c = absurd (c.in-Err.ensures.1 (omega (arith, length-take 16 c.args.octets.now)))
