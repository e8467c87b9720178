use Rattle.std.proofs.Common.{◌≡◌, ap, ◌∙◌, length, rules}
use Rattle.std.specs.Ordering.{is_lt}
use Rattle.std.proofs.lemmas.List.Sorted.{ranks_by, answers_always}
use Rattle.arrayvec.proofs.ArrayVecLemmas.{items-with_items}
use Rattle.ts_name.specs.declared.attribute.Attribute.{Attribute}
use Rattle.ts_name.specs.Canon.{compare_attrs}
use Rattle.ts_name.specs.inside.Sorted.{canon_of}
use Rattle.ts_name.proofs.Order.{total}
use Rattle.ts_name.proofs.ordering.sort.Goals as goal

pub returns-clause-sorted : goal.returns-clause-sorted
returns-clause-sorted g c =
    rw (items-with_items c.args.table.now c.sort_unstable_by.new.self (c.sort_unstable_by.ensures.len ∙ ap length c.deref_mut.ensures.value))
    (c.sort_unstable_by.ensures.sorted
    (λ (a b : Attribute). is_lt (compare_attrs (canon_of a) (canon_of b)))
    (ranks_by total canon_of)
    (answers_always _ _ _
    (λ f a r h k. let e : r ≡ compare_attrs (canon_of a.0.now) (canon_of a.1.0.now) =
    search rules in ap is_lt e)))
