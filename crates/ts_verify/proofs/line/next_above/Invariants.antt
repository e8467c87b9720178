-- What is known of the certificates before.
use Rattle.std.proofs.Common.{map}
use Rattle.ts_cert.specs.CertView.{cert_in}
use Rattle.ts_verify.specs.Lines.{is_next}
use Rattle.ts_verify.proofs.Named.{signs}
use Rattle.ts_verify.proofs.Preferred.{IsSought}
use Rattle.ts_verify.proofs.line.next_above.Given as goal

abbrev pub invariant-loop-place : goal.invariant-loop-place
invariant-loop-place g l =
    let certs = map cert_in l.certificates in
    let good = g.S.SignatureCheck.accepts l.check in
    IsSought (is_next certs l.top l.used) (signs good certs l.top) l.place l.named_place
