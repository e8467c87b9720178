use Rattle.std.proofs.Common.{◌∙◌, ap, map, ◌++◌}
use Rattle.ts_policy.specs.inside.Links.{link_in}
use Rattle.ts_policy.proofs.Views.{expectations_view}
use Rattle.ts_policy.proofs.layer.expectations_of.Goals as goal

pub returns : goal.returns
returns c =
    ap (map link_in) (c.in_ok-extend_from_slice.ensures.items ∙ ap (λ ys. c.in_ok-pairs.pairs.items ++ ys) c.deref.ensures.value)
    ∙ expectations_view c.args.labels.now c.as_slice.result.now c.as_slice.ensures
    c.args.mappings.now c.args.mapped.now c.in_ok-pairs.pairs.items c.in_ok-others.others.items
    c.in_ok-pairs.ensures c.in_ok-others.ensures
