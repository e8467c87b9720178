use Rattle.std.proofs.Common.{drop}
use Rattle.ts_der.specs.Stands.{between}
use Rattle.ts_shape.specs.Fields.{IsBits}
use Rattle.ts_cert.proofs.Spanned.{spans, first-octet}
use Rattle.ts_cert.proofs.fast.bits_end.Goals as goal

pub returns : goal.returns
returns c =
    let bounds = c.in_ok-start.field-0 in
    spans 0x03 IsBits c.args.octets.now c.args.at bounds (drop 1 (between c.args.octets.now bounds))
    c.in_ok-start.ensures.stands
    (first-octet (between c.args.octets.now bounds) 0 c.in-len1-up.len_at_least
    c.if-unused-ne0.false)
