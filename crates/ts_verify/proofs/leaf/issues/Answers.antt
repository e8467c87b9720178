use Rattle.std.proofs.Common.{ap, ◌∙◌}
use Rattle.ts_name.specs.NameView.{rdns_in}
use Rattle.ts_name.specs.Sameness.{is_same_name}
use Rattle.ts_name.proofs.SameNames.{same_is}
use Rattle.ts_cert.specs.CertView.{cert_in}
use Rattle.ts_verify.proofs.leaf.issues.Goals as goal

pub returns : goal.returns
returns c =
    same_is c.same.result (rdns_in c.issuer.result) (rdns_in c.subject.result) c.same.ensures
    ∙ (ap (λ n. is_same_name n (rdns_in c.subject.result)) c.issuer.ensures
    ∙ ap (λ n. is_same_name (cert_in c.args.cert.now).tbsCertificate.issuer n) c.subject.ensures)
