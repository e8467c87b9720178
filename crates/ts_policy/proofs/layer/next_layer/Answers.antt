use Rattle.std.proofs.Common.{◌∙◌, ap, map, ◌++◌}
use Rattle.ts_policy.specs.inside.Links.{link_in}
use Rattle.ts_policy.specs.inside.Layers.{wanted, unwanted_by, is_asked}
use Rattle.ts_policy.proofs.Views.{map_append, map_filter}
use Rattle.ts_policy.proofs.Layered.{unwanted_alike}
use Rattle.ts_policy.proofs.layer.next_layer.Goals as goal

pub returns : goal.returns
returns c =
    let xs = c.args.expectations.now in
    let ps = c.args.stated.now in
    let links = c.in_ok-links.links.items in
    let others = c.in_ok-others.others.items in
    let first = ap (map link_in) c.in_ok-links.ensures ∙ map_filter link_in (λ x. is_asked c.args.fills ps x) xs in
    let second = c.in_ok-others.ensures ∙ ap (unwanted_by c.in_ok-expected.expected) c.as_slice.ensures ∙ unwanted_alike c.in_ok-expected.expected (map link_in xs) ps c.in_ok-expected.ensures in
    ap (map link_in) (c.in_ok-extend_from_slice.ensures.items ∙ ap (λ ys. links ++ ys) c.deref.ensures.value)
    ∙ map_append link_in links others
    ∙ ap (λ l. l ++ map link_in others) first
    ∙ ap (λ l. wanted (map link_in xs) ps c.args.fills ++ l) second
