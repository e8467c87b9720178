use Rattle.std.proofs.Common.{◌≡◌, List, ◌++◌}
use Rattle.std.specs.Prelude.{map}
use Rattle.ts_name.specs.Canon.{Attr, canon_attr, count_of}
use Rattle.ts_name.specs.View.{attr_of}
use Rattle.ts_name.specs.NameView.{attributes_in}
use Rattle.ts_name.proofs.sameness.count.Given as goal

abbrev pub invariant-loop-other : goal.invariant-loop-other
invariant-loop-other l =
    (goal.iterator-loop-other).can_next l.other-iterator × (goal.iterator-loop-other).is_finite l.other-iterator
    × (front : List Attr) × (attributes_in l.rdn ≡ front ++ l.other-iterator) × (l.count ≡ count_of (canon_attr (attr_of l.attribute)) (map canon_attr front))
