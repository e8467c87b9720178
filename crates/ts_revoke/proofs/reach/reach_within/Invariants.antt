use Rattle.std.proofs.Common.{◌≡◌, ◌+◌, ◌≤◌, length}
use Rattle.std.specs.Prelude.{option_map}
use Rattle.ts_der.specs.Element.{inside}
use Rattle.ts_der.specs.View.{now}
use Rattle.ts_ext.specs.NameViews.{issuing_point_in}
use Rattle.ts_ext.specs.Points.{point_item}
use Rattle.ts_shape.specs.Items.{items_at}
use Rattle.ts_revoke.specs.inside.ByList.{first_reached, reached_reasons}
use Rattle.ts_revoke.specs.Decision.{or_reason}
use Rattle.ts_revoke.specs.Reasons.{union}
use Rattle.ts_revoke.proofs.reach.reach_within.Given as goal

abbrev pub invariant-loop-point : goal.invariant-loop-point
invariant-loop-point l =
    (or_reason l.place (first_reached (option_map issuing_point_in l.fn.scope) l.index (items_at point_item l.point-iterator.rest))
    ≡ first_reached (option_map issuing_point_in l.fn.scope) 0 (items_at point_item (inside (now l.fn.points))))
    × (union l.reasons (reached_reasons (option_map issuing_point_in l.fn.scope) (items_at point_item l.point-iterator.rest))
    ≡ reached_reasons (option_map issuing_point_in l.fn.scope) (items_at point_item (inside (now l.fn.points))))
    × (l.index + length (items_at point_item l.point-iterator.rest) ≤ l.octets)
