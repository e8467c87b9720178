use Rattle.std.proofs.Common.{◌-◌, length, take, drop}
use Rattle.std.proofs.lemmas.List.{take_rest}
use Rattle.ts_cert.proofs.Spanned.{version-3}
use Rattle.ts_cert.proofs.fast.version_end.Goals as goal

pub returns : goal.returns
returns c =
    let octets = c.args.octets.now in
    let rest = take (length octets - c.args.at) (drop c.args.at octets) in
    version-3 octets rest c.args.at (take_rest octets c.args.at) c.in-len5-up.len_at_least c.if-tag.false c.if-length-ne3.false c.if-inner-ne-INTEGER.false c.if-size-ne1.false c.if-number-ne2.false
