use Rattle.ts_name.proofs.SameNames.{same_is}
use Rattle.ts_cert.specs.CertView.{cert_in}
use Rattle.ts_path.proofs.self_issued.is_self_issued.Goals as goal

pub returns : goal.returns
returns c =
    let t = (cert_in c.args.cert.now).tbsCertificate in
    same_is c.is_self_issued.result t.issuer t.subject c.is_self_issued.ensures
