use Rattle.ts_cert.specs.Encoding.{IsValidity}
use Rattle.ts_cert.proofs.Spanned.{spans, content-joined}
use Rattle.ts_cert.proofs.fast.validity_end.Goals as goal

pub returns : goal.returns
returns c =
    let octets = c.args.octets.now in
    let bounds = c.in_ok-start.field-0 in
    let has = c.in_ok-start.ensures.stands in
    let before = c.in_ok-not_after.ensures in
    let after = c.in_ok-utc_end.ensures in
    let fields = content-joined octets before.part after.part 0x30 c.args.at c.in_ok-not_after.not_after c.in_ok-utc_end.field-0 bounds has before.here after.here c.if-branch-end.false in
    spans 0x30 IsValidity octets c.args.at bounds (record { not_before = before.value; not_after = after.value }) has
    (record { before = before.part; after = after.part; not_before = before.encoded; not_after = after.encoded; fields = fields })
