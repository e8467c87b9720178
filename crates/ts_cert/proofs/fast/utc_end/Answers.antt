use Rattle.std.proofs.Common.{◌-◌, length, take, drop, refl}
use Rattle.std.proofs.lemmas.List.{take_rest}
use Rattle.ts_cert.proofs.Spanned.{utc-span}
use Rattle.ts_cert.proofs.fast.utc_end.Goals as goal

pub returns : goal.returns
returns c =
    let octets = c.args.octets.now in
    let rest = take (length octets - c.args.at) (drop c.args.at octets) in
    let is = c.if-not-begins_with_utc.ensures.0 refl in
    utc-span octets rest _ c.args.at is.1.0 (take_rest octets c.args.at) c.in-len2-up.len_at_least c.if-tag-ne-UTC_TIME.false c.if-length-ne13.false (take_rest rest 2) is.0 is.1.1
