use Rattle.std.proofs.Common.{arith}
use Rattle.ts_codec.proofs.Truths.{few_octets}
use Rattle.ts_codec.proofs.writing.push_oid.Goals as goal

pub overflow_cast-content : goal.overflow_cast-content
overflow_cast-content c = let short = few_octets c.as_ref.result.content.now c.as_ref.result.form in omega (arith, short)
