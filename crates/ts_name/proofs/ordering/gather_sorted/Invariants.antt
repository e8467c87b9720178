use Rattle.std.proofs.Common.{◌≡◌, List, ◌++◌}
use Rattle.std.specs.Prelude.{map}
use Rattle.ts_name.specs.NameView.{attributes_in}
use Rattle.ts_name.specs.View.{attr_of}
use Rattle.ts_name.proofs.ordering.gather_sorted.Given as goal

abbrev pub invariant-loop-attribute : goal.invariant-loop-attribute
invariant-loop-attribute g l =
    (goal.iterator-loop-attribute g).can_next l.attribute-iterator × (goal.iterator-loop-attribute g).is_finite l.attribute-iterator
    × (attributes_in l.rdn ≡ map attr_of l.table.items ++ l.attribute-iterator)
