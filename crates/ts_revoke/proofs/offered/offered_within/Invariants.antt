use Rattle.std.proofs.Common.{◌≡◌}
use Rattle.ts_der.specs.Element.{inside}
use Rattle.ts_der.specs.View.{now}
use Rattle.ts_ext.specs.Points.{point_item}
use Rattle.ts_shape.specs.Items.{items_at}
use Rattle.ts_revoke.specs.inside.ByList.{offered}
use Rattle.ts_revoke.specs.Reasons.{union}
use Rattle.ts_revoke.proofs.offered.offered_within.Given as goal

abbrev pub invariant-loop-point : goal.invariant-loop-point
invariant-loop-point l =
    union l.reasons (offered (items_at point_item l.point-iterator.rest)) ≡ offered (items_at point_item (inside (now l.fn.points)))
