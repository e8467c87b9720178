use Rattle.std.proofs.Common.{◌≡◌, ◌≤◌, ◌-◌, [], List, ℕ, length, take}
use Rattle.ts_der.specs.Element.{inside}
use Rattle.ts_der.specs.View.{now}
use Rattle.ts_shape.specs.Items.{items_at}
use Rattle.ts_shape.specs.Repeats.{first_repeated, keys_in}
use Rattle.ts_shape.specs.inside.Collisions.{AreFlagged, AreCollisions}
use Rattle.ts_shape.proofs.KeyTables.{AreMarked}
use Rattle.ts_shape.proofs.collisions.first_met_again.Given as goal

abbrev pub invariant-loop-before : goal.invariant-loop-before
invariant-loop-before g l =
    (seen : List (List ℕ)) × (length l.met ≡ g.row.N) × (l.before ≤ l.end) × AreFlagged g.row.M l.factor l.flags (keys_in l.table) × AreMarked l.met (keys_in l.table) seen
    × AreCollisions g.T.FromElement.key_of (keys_in l.table) seen (take (l.end - l.before) (items_at g.T.FromElement.reading l.items.rest))
    × (first_repeated g.T.FromElement.key_of [] (take l.end (items_at g.T.FromElement.reading (inside (now l.list))))
    ≡ first_repeated g.T.FromElement.key_of seen (take (l.end - l.before) (items_at g.T.FromElement.reading l.items.rest)))

abbrev pub decreases-loop-before : goal.decreases-loop-before
decreases-loop-before g l = l.end - l.before
