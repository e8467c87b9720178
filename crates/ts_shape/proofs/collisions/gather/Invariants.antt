use Rattle.std.proofs.Common.{◌≡◌, ◌<◌, ◌-◌, ◌++◌, [], List, None, length, take}
use Rattle.ts_der.specs.Element.{inside}
use Rattle.ts_der.specs.View.{now}
use Rattle.ts_shape.specs.Items.{items_at}
use Rattle.ts_shape.specs.Repeats.{first_repeated, keys_in}
use Rattle.ts_shape.specs.inside.Collisions.{AreFlagged, AreCollisions}
use Rattle.ts_shape.proofs.FirstRepeats.{seen_after}
use Rattle.ts_shape.proofs.collisions.gather.Given as goal

abbrev pub invariant-loop-items : goal.invariant-loop-items
invariant-loop-items g l =
    (front : List g.T.FromElement.Record)
    × (items_at g.T.FromElement.reading (inside (now l.list)) ≡ front ++ items_at g.T.FromElement.reading l.items.rest)
    × (length front ≡ l.passed) × (length l.seen ≡ g.row.M)
    × AreFlagged g.row.M l.factor l.seen (seen_after g.T.FromElement.key_of [] front)
    × AreCollisions g.T.FromElement.key_of (keys_in l.table.items) [] front
    × (first_repeated g.T.FromElement.key_of (seen_after g.T.FromElement.key_of [] front) (take (l.known - l.passed) (items_at g.T.FromElement.reading l.items.rest)) ≡ None)
    × (0 < length l.table.items → l.known < l.passed)

abbrev pub decreases-loop-items : goal.decreases-loop-items
decreases-loop-items g l = length (items_at g.T.FromElement.reading l.items.rest)
