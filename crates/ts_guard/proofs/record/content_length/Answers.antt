-- A whole record of another version.
use Rattle.std.proofs.Common.{arith}
use Rattle.ts_guard.proofs.Fronts.{other_version}
use Rattle.ts_guard.proofs.record.content_length.Goals as goal

pub returns-then-octets-ne-VERSION : goal.returns-then-octets-ne-VERSION
returns-then-octets-ne-VERSION c =
    other_version c.args.octets.now c.in-Some.size (omega arith) (omega arith)
    (omega arith) c.in-Some.ensures.found c.if-octets-ne-VERSION.true
