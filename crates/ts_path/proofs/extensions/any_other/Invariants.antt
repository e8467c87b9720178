-- One of all is such exactly where one of those left is.
use Rattle.std.proofs.Common.{◌≡◌}
use Rattle.std.specs.List.{list_any}
use Rattle.ts_der.specs.Element.{inside}
use Rattle.ts_der.specs.View.{now}
use Rattle.ts_shape.specs.Items.{items_at}
use Rattle.ts_ext.specs.Reading.{policy_qualifier_in}
use Rattle.ts_path.specs.Extensions.{is_other}
use Rattle.ts_path.proofs.extensions.any_other.Given as goal

abbrev pub invariant-loop-qualifier : goal.invariant-loop-qualifier
invariant-loop-qualifier l =
    (goal.iterator-loop-qualifier).can_next l.qualifier-iterator × (goal.iterator-loop-qualifier).is_finite l.qualifier-iterator
    × (list_any is_other (items_at policy_qualifier_in (inside (now l.fn.qualifiers.element))) ≡ list_any is_other (items_at policy_qualifier_in l.qualifier-iterator.rest))
