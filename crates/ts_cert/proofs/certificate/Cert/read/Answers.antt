use Rattle.std.proofs.Common.{◌≡◌, refl, arith}
use Rattle.ts_shape.proofs.Walks.{IfOk-answers, IsOkAnd-answers}
use Rattle.ts_cert.specs.Certificate.{Certificate}
use Rattle.ts_cert.specs.CertView.{cert_in}
use Rattle.ts_cert.specs.Reading.{certificate_of}
use Rattle.ts_cert.specs.Encoding.{IsCertificate}
use Rattle.ts_cert.proofs.Judging.{fault-judged}
use Rattle.ts_cert.proofs.Certificates.{certificate-found, certificate-again}
use Rattle.ts_cert.proofs.certificate.Cert.read.Goals as goal

pub returns-clause-found : goal.returns-clause-found
returns-clause-found c =
    IfOk-answers cert_in c.read_cert.result (certificate_of c.args.octets.now) (IsCertificate c.args.octets.now) c.read_cert.ensures
    (λ x read. certificate-found c.args.octets.now x (λ i. omega (arith, c.type_inv.octets i)) read)

pub returns-clause-only : goal.returns-clause-only
returns-clause-only c x is =
    IsOkAnd-answers cert_in c.read_cert.result (certificate_of c.args.octets.now) x (λ (y : Certificate). y ≡ x) c.read_cert.ensures (certificate-again c.args.octets.now x is) refl

pub returns-clause-fault : goal.returns-clause-fault
returns-clause-fault c = fault-judged cert_in c.read_cert.result c.args.octets.now c.read_cert.ensures
