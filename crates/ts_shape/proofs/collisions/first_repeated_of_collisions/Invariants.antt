use Rattle.std.proofs.Common.{◌≡◌, ◌-◌, [], None, length, take}
use Rattle.ts_der.specs.Element.{inside}
use Rattle.ts_der.specs.View.{now}
use Rattle.ts_shape.specs.Items.{items_at}
use Rattle.ts_shape.specs.Repeats.{first_repeated}
use Rattle.ts_shape.proofs.collisions.first_repeated_of_collisions.Given as goal

abbrev pub invariant-loop-table : goal.invariant-loop-table
invariant-loop-table g l = first_repeated g.T.FromElement.key_of [] (take l.passed (items_at g.T.FromElement.reading (inside (now l.list)))) ≡ None

abbrev pub decreases-loop-table : goal.decreases-loop-table
decreases-loop-table g l = length (items_at g.T.FromElement.reading (inside (now l.list))) - l.passed
