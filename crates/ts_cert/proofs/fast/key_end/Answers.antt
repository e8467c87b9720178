use Rattle.ts_cert.specs.Encoding.{IsKeyInfo}
use Rattle.ts_cert.proofs.Spanned.{spans, content-joined}
use Rattle.ts_cert.proofs.fast.key_end.Goals as goal

pub returns : goal.returns
returns c =
    let octets = c.args.octets.now in
    let bounds = c.in_ok-start.field-0 in
    let has = c.in_ok-start.ensures.stands in
    let algorithm = c.in_ok-key.ensures in
    let bits = c.in_ok-bits_end.ensures in
    let fields = content-joined octets algorithm.part bits.part 0x30 c.args.at c.in_ok-key.key c.in_ok-bits_end.field-0 bounds has algorithm.here bits.here c.if-branch-end.false in
    spans 0x30 IsKeyInfo octets c.args.at bounds (record { algorithm = algorithm.value; subjectPublicKey = bits.value }) has
    (record { identifier = algorithm.part; key = bits.part; algorithm = algorithm.encoded; subjectPublicKey = bits.encoded; fields = fields })
