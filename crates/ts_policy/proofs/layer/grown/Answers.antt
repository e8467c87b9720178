use Rattle.std.proofs.Common.{◌∙◌, ap, map, ◌++◌}
use Rattle.ts_policy.specs.inside.Links.{link_in}
use Rattle.ts_policy.specs.Certificates.{mapping_in}
use Rattle.ts_policy.proofs.Views.{map_append}
use Rattle.ts_policy.proofs.Layered.{added_alike}
use Rattle.ts_policy.proofs.layer.grown.Goals as goal

pub returns : goal.returns
returns c =
    let xs = c.args.links.now in
    let others = c.in_ok-others.others.items in
    ap (map link_in) (c.in_ok-extend_from_slice.ensures.items ∙ ap (λ ys. c.in_ok-grown.grown.items ++ ys) c.deref.ensures.value ∙ ap (λ ys. ys ++ others) c.in_ok-grown.ensures.items)
    ∙ map_append link_in xs others
    ∙ ap (λ l. map link_in xs ++ l) (c.in_ok-others.ensures ∙ added_alike c.in_ok-labels.labels (map link_in xs) (map mapping_in c.args.mappings.now) c.in_ok-labels.ensures)
