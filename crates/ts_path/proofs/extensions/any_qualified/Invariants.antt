-- One of all is such exactly where one of those left is.
use Rattle.std.proofs.Common.{◌≡◌}
use Rattle.std.specs.List.{list_any}
use Rattle.ts_shape.specs.Items.{items_at}
use Rattle.ts_ext.specs.Reading.{policy_information_in}
use Rattle.ts_ext.specs.View.{policies_in}
use Rattle.ts_path.specs.Extensions.{is_qualified}
use Rattle.ts_path.proofs.extensions.any_qualified.Given as goal

abbrev pub invariant-loop-policy : goal.invariant-loop-policy
invariant-loop-policy l =
    (goal.iterator-loop-policy).can_next l.policy-iterator × (goal.iterator-loop-policy).is_finite l.policy-iterator
    × (list_any is_qualified (policies_in l.fn.policies) ≡ list_any is_qualified (items_at policy_information_in l.policy-iterator.rest))
