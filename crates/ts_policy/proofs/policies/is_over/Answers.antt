use Rattle.std.proofs.Common.{◌∙◌, ap, sym, length, ◌==◌, [], take, ◌-◌, map}
use Rattle.std.proofs.lemmas.List.{length-map}
use Rattle.ts_policy.specs.inside.Layers.{is_over, newest}
use Rattle.ts_policy.specs.inside.Links.{link_in}
use Rattle.ts_policy.proofs.KeptLaw.{newest-last, is_over-cons, some_if}
use Rattle.ts_policy.proofs.policies.is_over.Goals as goal

pub returns : goal.returns
returns c =
    let layers = c.args.layers.now in
    let x = c.index-layers-layers.result in
    let some = some_if (length layers) c.is_empty.result c.is_empty.ensures c.if-is_empty.false in
    let e = newest-last (λ v. map link_in v.items) layers x some c.index-layers-layers.is in
    c.is_empty-2.ensures ∙ ap (λ n. n == 0) (x.ok.0 ∙ sym (length-map x.items link_in))
    ∙ sym (is_over-cons (map link_in x.items) (newest (λ v. map link_in v.items) [] (take (length layers - 1) layers))) ∙ ap is_over (sym e)
