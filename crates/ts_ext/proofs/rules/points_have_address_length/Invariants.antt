use Rattle.std.proofs.Common.{◌≡◌}
use Rattle.std.specs.List.{list_all}
use Rattle.ts_shape.specs.Items.{items_at}
use Rattle.ts_ext.specs.NameViews.{points_in}
use Rattle.ts_ext.specs.Points.{point_item}
use Rattle.ts_ext.specs.Rules.{has_addresses}
use Rattle.ts_ext.proofs.rules.points_have_address_length.Given as goal

abbrev pub invariant-loop-point : goal.invariant-loop-point
invariant-loop-point l = list_all has_addresses (points_in l.fn.points) ≡ list_all has_addresses (items_at point_item l.point-iterator.rest)
