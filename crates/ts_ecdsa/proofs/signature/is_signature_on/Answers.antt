use Rattle.std.proofs.Common.{arith}
use Rattle.std.proofs.lemmas.Bool.{false≢true}
use Rattle.ts_der.specs.Octets.{AreOctets}
use Rattle.ts_ecdsa.proofs.Exact.{signature_by_parts, no_signature}
use Rattle.ts_ecdsa.proofs.signature.is_signature_on.Goals as goal

pub returns-in-Err : goal.returns-in-Err
returns-in-Err g c =
    let q = g.C.DomainParameters.curve in
    let oct : AreOctets c.args.signature.now = λ i. omega (arith, c.type_inv.signature i) in (
      λ h. absurd (false≢true h),
      λ i. absurd (no_signature q c.args.hash c.args.public_key.now c.args.signed.now.octets.now
          c.args.signature.now c.in-Err._fault oct c.in-Err.ensures i),
    )

pub returns : goal.returns
returns g c =
    let q = g.C.DomainParameters.curve in
    let oct : AreOctets c.args.signature.now = λ i. omega (arith, c.type_inv.signature i) in
    let r = c.in-Ok.r.octets.now in
    let s = c.in-Ok.s.octets.now in
    let key = c.in-Some.ensures.found in
    let by = signature_by_parts q c.args.hash c.args.public_key.now c.args.signed.now.octets.now
    c.args.signature.now r s c.in-Some.q c.hash_number.result oct key.0 key.1 c.hash_number.ensures
    c.in-Ok.ensures in (
      λ h. by.0 (c.is_integer_signature.ensures.0 h),
      λ i. c.is_integer_signature.ensures.1 (by.1 i),
    )
