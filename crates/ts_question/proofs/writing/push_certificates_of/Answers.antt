use Rattle.std.proofs.Common.{◌≤◌, length, arith}
use Rattle.ts_question.proofs.Lengths.{short_at}
use Rattle.ts_question.proofs.writing.push_certificates_of.Goals as goal

pub push_blob32-requires : goal.push_blob32-requires
push_blob32-requires c =
    let short : length c.certificate-item.result.items ≤ 65536 =
    short_at (λ s. s.items) 65536 c.args.certificates.now c.loop-certificate.certificate-index
    c.certificate-item.result c.requires c.loop-certificate-test.true c.certificate-item.is in
    omega (arith, short)
