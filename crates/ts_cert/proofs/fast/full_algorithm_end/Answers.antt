use Rattle.std.proofs.Common.{refl}
use Rattle.std.specs.Prelude.{unwrap_or, []}
use Rattle.ts_der.specs.Element.{encode}
use Rattle.ts_der.specs.Stands.{between}
use Rattle.ts_field.specs.Algorithm.{IsAlgorithm}
use Rattle.ts_cert.proofs.Spanned.{spans, content-joined}
use Rattle.ts_cert.proofs.fast.full_algorithm_end.Goals as goal

pub returns : goal.returns
returns c =
    let octets = c.args.octets.now in
    let bounds = c.in_ok-start.field-0 in
    let has = c.in_ok-start.ensures.stands in
    let oid = c.in_ok-parameters.ensures in
    let parameters = c.are_parameters.ensures c.if-not-are_parameters.false in
    let fields = content-joined octets oid.part (unwrap_or parameters.0 []) 0x30 c.args.at c.in_ok-parameters.parameters bounds.end bounds has oid.here parameters.2 refl in
    spans 0x30 IsAlgorithm octets c.args.at bounds (record { algorithm = oid.value; parameters = parameters.0; whole = encode 0x30 (between octets bounds) }) has
    (record { oid = oid.part; algorithm = oid.encoded; parameters = parameters.1; fields = fields; whole = refl })
