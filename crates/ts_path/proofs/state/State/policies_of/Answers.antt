-- What the certificate states, field by field.
use Rattle.std.proofs.Common.{◌∙◌, ap}
use Rattle.ts_name.proofs.SameNames.{same_is}
use Rattle.ts_cert.specs.CertView.{cert_in}
use Rattle.ts_path.specs.State.{PathState}
use Rattle.ts_path.proofs.state.State.policies_of.Goals as goal

pub returns : goal.returns
returns c =
    let t = (cert_in c.args.cert.now).tbsCertificate in
    let e = c.in_ok-stated.ensures in
    λ i. record {
      policies = e.policies i;
      mappings = e.mappings i;
      self_issued = same_is c.in_ok-stated.stated.self_issued t.issuer t.subject e.self_issued i;
      is_last = e.is_last i;
      inhibit_any_policy = (e.inhibit_any_policy ∙ ap (λ (s : PathState). s.counters.inhibit_any_policy) c.self.view_is) i;
      policy_mapping = (e.policy_mapping ∙ ap (λ (s : PathState). s.counters.policy_mapping) c.self.view_is) i;
    }
