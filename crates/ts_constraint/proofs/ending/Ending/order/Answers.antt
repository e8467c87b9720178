use Rattle.std.proofs.Common.{◌≡◌, ap, ◌∙◌, Ordering}
use Rattle.std.specs.Ordering.{nat_cmp, ordering_then, ordering_reverse}
use Rattle.std.proofs.lemmas.Cmp.{nat_cmp_total}
use Rattle.ts_constraint.specs.inside.Ending.{octets}
use Rattle.ts_constraint.specs.inside.Fronts.{front_cmp}
use Rattle.ts_constraint.proofs.Fronts.{by-fronts}
use Rattle.ts_constraint.proofs.ending.Ending.order.Goals as goal

pub returns : goal.returns
returns c =
    let xs = octets c.args.self in
    let ys = octets c.args.other in
    c.then.ensures
    ∙ ap (λ (k : Ordering). ordering_then k c.reverse.result) c.front_order.ensures
    ∙ ap (λ (k : Ordering). ordering_then (front_cmp nat_cmp xs ys) k) (c.reverse.ensures ∙ ap ordering_reverse c.front_order-2.ensures)
    ∙ by-fronts nat_cmp_total xs ys
