use Rattle.std.proofs.Common.{◌≡◌, ◌∙◌, ◌||◌, ap, sym}
use Rattle.ts_policy.specs.Labels.{same, any_policy}
use Rattle.ts_policy.specs.Certificates.{mapping_in, maps_any_of, maps_any, policies_in}
use Rattle.ts_policy.proofs.Views.{any_of_view}
use Rattle.ts_policy.proofs.KeptLaw.{fine_if, fine_only}
use Rattle.ts_policy.proofs.certificate.Certificate.maps_any.Goals as goal

pub returns : goal.returns
returns c =
    let cert = policies_in c.args.self.now in
    let is : c.names_any.result ≡ maps_any cert =
    c.names_any.ensures ∙ ap maps_any_of c.deref.ensures.value
    ∙ any_of_view mapping_in (λ m. same m.0 any_policy || same m.1 any_policy) c.args.self.now.mappings.items in
    (λ e. fine_if cert (sym is ∙ e), λ fine. is ∙ fine_only cert fine)
