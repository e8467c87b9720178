-- The line is the one on the certificate that was read at the place.
use Rattle.std.proofs.Common.{ℕ, List, length, subst, sym}
use Rattle.std.proofs.lemmas.Result.{IfOk-weaker}
use Rattle.ts_cert.specs.Certificate.{Certificate}
use Rattle.ts_cert.specs.CertView.{cert_in}
use Rattle.ts_cert.specs.Encoding.{IsCertificate}
use Rattle.ts_explain.specs.Lines.{IsReasonLine}
use Rattle.ts_render.specs.Chain.{certificates_in}
use Rattle.ts_render.proofs.Explained.{lengths, octets_at}
use Rattle.ts_render.proofs.explaining.invalid_line.Goals as goal

pub returns : goal.returns
returns c =
    let xs = c.certificates_in-certificates.result.now in
    let cs = certificates_in c.args.question.now in
    let are = c.certificates_in-certificates.ensures in
    let read = cert_in c.in-Ok.cert in
    let found = octets_at xs cs c.saturating_sub.result c.args.position c.in-Some.octets.now c.deref.result.now
    are c.saturating_sub.ensures c.in-Some.ensures.lookup.3.0 c.in-Some.ensures.lookup.1 c.deref.ensures.value in
    IfOk-weaker c.reason_line.result _ _
    (λ line is. record {
      certificate = λ other at. (
        c.as_ref.result,
        c.as_ref.ensures,
        subst (λ (n : ℕ). IsReasonLine c.args.position n other c.as_ref.result line) (lengths xs cs are)
            (subst (λ (k : Certificate). IsReasonLine c.args.position (length xs) k c.as_ref.result line)
            (c.in-Ok.ensures.only other (subst (λ (o : List ℕ). IsCertificate o other) found.1 at.1)) is),
      );
      none = λ no. absurd (no read (found.0, subst (λ (o : List ℕ). IsCertificate o read) (sym found.1) c.in-Ok.ensures.found));
    })
    c.reason_line.ensures
