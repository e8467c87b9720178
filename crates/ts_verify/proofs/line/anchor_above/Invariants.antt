-- What is known of the anchors before.
use Rattle.std.proofs.Common.{map}
use Rattle.ts_cert.specs.CertView.{cert_in}
use Rattle.ts_path.specs.View.{anchor_in}
use Rattle.ts_verify.specs.Lines.{is_anchored}
use Rattle.ts_verify.proofs.Named.{signs_under}
use Rattle.ts_verify.proofs.Preferred.{IsSought}
use Rattle.ts_verify.proofs.line.anchor_above.Given as goal

abbrev pub invariant-loop-place : goal.invariant-loop-place
invariant-loop-place g l =
    let anchors = map anchor_in l.anchors in
    let certs = map cert_in l.certificates in
    let good = g.S.SignatureCheck.accepts l.check in
    IsSought (is_anchored anchors certs l.top) (signs_under good anchors certs l.top) l.place l.named_place
