use Rattle.std.proofs.Common.{refl, arith}
use Rattle.ts_cert.specs.CertView.{parts_in}
use Rattle.ts_cert.proofs.Certificates.{certificate-found}
use Rattle.ts_cert.proofs.reading.full_layout.Goals as goal

pub returns-clause-laid : goal.returns-clause-laid
returns-clause-laid c =
    let octets = c.args.octets.now in
    c.layout_of.ensures (parts_in c.in_ok-parts.parts) (certificate-found octets (parts_in c.in_ok-parts.parts) (λ i. omega (arith, c.type_inv.octets i)) c.in_ok-parts.ensures) refl
