use Rattle.std.proofs.Common.{refl}
use Rattle.ts_shape.specs.Fields.{IsOid}
use Rattle.ts_cert.proofs.Spanned.{spans}
use Rattle.ts_cert.proofs.fast.oid_end.Goals as goal

pub returns : goal.returns
returns c = spans 0x06 IsOid c.args.octets.now c.args.at c.in_ok-start.field-0 _ c.in_ok-start.ensures.stands (refl, c.in_ok-_oid.ensures.1)
