use Rattle.std.proofs.Common.{List, ◌++◌, ap, sym, ◌∙◌, append-nil}
use Rattle.std.specs.Prelude.{map}
use Rattle.ts_name.specs.Canon.{Attr, canon_rdn}
use Rattle.ts_name.specs.View.{attr_of}
use Rattle.ts_name.proofs.CanonOrder.{sorted-is}
use Rattle.ts_name.proofs.ordering.gather_sorted.Goals as goal

pub returns : goal.returns
returns g c = λ t.
    let items = c.loop-attribute.table.items in
    let all = c.loop-attribute.invariant.2 ∙ (ap (λ (xs : List Attr). map attr_of items ++ xs) c.in-None.ensures.steps.0 ∙ append-nil (map attr_of items)) in
    sorted-is items c.sort.new.table.items c.sort.ensures.same c.sort.ensures.sorted ∙ ap canon_rdn (sym all)
