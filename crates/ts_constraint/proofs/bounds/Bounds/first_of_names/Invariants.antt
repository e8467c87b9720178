use Rattle.std.proofs.Common.{◌≡◌, List, ◌++◌}
use Rattle.ts_shape.specs.Items.{items_at}
use Rattle.ts_name.specs.General.{GeneralName, general_of}
use Rattle.ts_ext.specs.NameViews.{alternatives_in}
use Rattle.ts_constraint.specs.Conditions.{EachNameMeets}
use Rattle.ts_constraint.proofs.bounds.Bounds.first_of_names.Given as goal

abbrev pub invariant-loop-name : goal.invariant-loop-name
invariant-loop-name l =
    (goal.iterator-loop-name).can_next l.name-iterator × (goal.iterator-loop-name).is_finite l.name-iterator
    × (front : List GeneralName) × (alternatives_in l.fn.names ≡ front ++ items_at general_of l.name-iterator.rest) × EachNameMeets l.condition l.self front
