use Rattle.std.proofs.Common.{◌≡◌, List, ◌++◌}
use Rattle.ts_name.specs.Canon.{Attr}
use Rattle.ts_name.specs.NameView.{attributes_in}
use Rattle.ts_constraint.specs.Conditions.{EachNameMeets}
use Rattle.ts_constraint.specs.Names.{addresses_of}
use Rattle.ts_constraint.proofs.bounds.Bounds.first_of_rdn.Given as goal

abbrev pub invariant-loop-attribute : goal.invariant-loop-attribute
invariant-loop-attribute l =
    (goal.iterator-loop-attribute).can_next l.attribute-iterator × (goal.iterator-loop-attribute).is_finite l.attribute-iterator
    × (front : List Attr) × (attributes_in l.rdn ≡ front ++ l.attribute-iterator) × EachNameMeets l.condition l.self (addresses_of front)
