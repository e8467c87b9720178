use Rattle.std.proofs.Common.{◌≡◌, List, ◌++◌}
use Rattle.std.specs.Prelude.{map}
use Rattle.ts_name.specs.Canon.{Attr, canon_attr}
use Rattle.ts_name.specs.NameView.{attributes_in}
use Rattle.ts_name.proofs.sameness.are_one_in_order.Given as goal

abbrev pub invariant-loop-attribute : goal.invariant-loop-attribute
invariant-loop-attribute l =
    (goal.iterator-loop-attribute).can_next l.attribute-iterator × (goal.iterator-loop-attribute).is_finite l.attribute-iterator
    × (front other : List Attr) × (attributes_in l.a ≡ front ++ l.attribute-iterator) × (attributes_in l.b ≡ other ++ l.others) × (map canon_attr front ≡ map canon_attr other)
