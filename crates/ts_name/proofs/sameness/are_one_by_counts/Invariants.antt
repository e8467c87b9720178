use Rattle.std.proofs.Common.{◌≡◌, List, ◌++◌}
use Rattle.ts_name.specs.Canon.{Attr}
use Rattle.ts_name.specs.NameView.{attributes_in}
use Rattle.ts_name.proofs.Counting.{SameCounts}
use Rattle.ts_name.proofs.sameness.are_one_by_counts.Given as goal

abbrev pub invariant-loop-attribute : goal.invariant-loop-attribute
invariant-loop-attribute l =
    (goal.iterator-loop-attribute).can_next l.attribute-iterator × (goal.iterator-loop-attribute).is_finite l.attribute-iterator
    × (front : List Attr) × (attributes_in l.a ≡ front ++ l.attribute-iterator) × SameCounts (attributes_in l.a) (attributes_in l.b) front
