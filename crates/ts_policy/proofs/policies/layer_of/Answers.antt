use Rattle.std.proofs.Common.{◌≡◌, ◌∙◌, ap, ◌&&◌, map}
use Rattle.ts_policy.specs.Labels.{Label, has, any_policy}
use Rattle.ts_policy.specs.Paths.{policies_stated, any_counts}
use Rattle.ts_policy.specs.Certificates.{policies_in}
use Rattle.ts_policy.specs.inside.Layers.{next_layer}
use Rattle.ts_policy.specs.inside.Links.{link_in}
use Rattle.ts_policy.proofs.Views.{has_alike}
use Rattle.ts_policy.proofs.policies.layer_of.Goals as goal

pub returns : goal.returns
returns c =
    let cert = policies_in c.args.cert.now in
    let v = c.in_ok-from_slice.field-0 in
    let ps = c.of-stated.result in
    let alike : (p : Label) → has ps p ≡ has (policies_stated cert) p = λ p.
    has_alike ps (map (λ x. x.content.now) v.items) c.of-stated.ensures p ∙ ap (λ ps. has ps p) (ap (map (λ x. x.content.now)) c.in_ok-from_slice.ensures.items ∙ c.stated.ensures) in
    record {
      list = ps;
      alike = alike;
      is = c.in_ok-links.ensures ∙ ap (next_layer (map link_in c.args.expectations.now) ps) (c.fills.ensures ∙ ap (λ b. b && any_counts cert) (alike any_policy));
    }
