use Rattle.std.proofs.Common.{◌∙◌, ap, sym, map}
use Rattle.ts_policy.specs.Labels.{has}
use Rattle.ts_policy.specs.Certificates.{mapping_in}
use Rattle.ts_policy.proofs.Views.{has_alike, has_firsts, map_map}
use Rattle.ts_policy.proofs.layer.mapped_by.Goals as goal

pub returns : goal.returns
returns c p =
    let v = c.in_ok-issuer_domains.field-0 in
    let ms = c.args.mappings.now in
    has_alike c.of.result (map (λ x. x.content.now) v.items) c.of.ensures p
    ∙ ap (λ ps. has ps p) (ap (map (λ x. x.content.now)) c.in_ok-issuer_domains.ensures ∙ map_map (λ m. m.issuer_domain) (λ x. x.content.now) ms ∙ sym (map_map mapping_in (λ x. x.0) ms))
    ∙ has_firsts (map mapping_in ms) p
