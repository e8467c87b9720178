use Rattle.std.proofs.Common.{◌≡◌, length, take}
use Rattle.ts_shape.specs.Repeats.{keys_in}
use Rattle.ts_shape.specs.inside.Collisions.{AreFlagged}
use Rattle.ts_shape.proofs.collisions.set_flags.Given as goal

abbrev pub invariant-loop-key : goal.invariant-loop-key
invariant-loop-key g l = (length l.flags ≡ g.row.M) × AreFlagged g.row.M l.factor l.flags (keys_in (take l.key-index l.table))
