use Rattle.std.proofs.Common.{◌∙◌, ap, sym, map}
use Rattle.ts_policy.specs.Labels.{has}
use Rattle.ts_policy.specs.inside.Links.{link_in}
use Rattle.ts_policy.proofs.Views.{has_alike, has_firsts, map_map}
use Rattle.ts_policy.proofs.layer.labels_of.Goals as goal

pub returns : goal.returns
returns c p =
    let v = c.in_ok-link_labels.field-0 in
    let xs = c.args.links.now in
    has_alike c.of.result (map (λ x. x.content.now) v.items) c.of.ensures p
    ∙ ap (λ ps. has ps p) (ap (map (λ x. x.content.now)) c.in_ok-link_labels.ensures ∙ map_map (λ x. x.label) (λ x. x.content.now) xs ∙ sym (map_map link_in (λ x. x.0) xs))
    ∙ has_firsts (map link_in xs) p
