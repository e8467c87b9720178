use Rattle.ts_name.specs.NameEncoding.{IsName}
use Rattle.ts_cert.proofs.Spanned.{spans}
use Rattle.ts_cert.proofs.fast.name_end.Goals as goal

pub returns : goal.returns
returns c =
    let is = c.is_name.ensures.0 c.if-not-is_name.false in
    spans 0x30 IsName c.args.octets.now c.args.at c.in_ok-start.field-0 is.0 c.in_ok-start.ensures.stands is.1
