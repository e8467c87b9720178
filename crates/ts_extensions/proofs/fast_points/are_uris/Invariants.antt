use Rattle.std.proofs.Common.{List, ℕ, length}
use Rattle.std.specs.Prelude.{map}
use Rattle.ts_shape.specs.Fields.{Within}
use Rattle.ts_shape.specs.Items.{AreItems}
use Rattle.ts_ext.specs.Points.{IsPoint, point_of_uri}
use Rattle.ts_extensions.proofs.fast_points.are_uris.Given as goal

-- what is left are points that are URIs where all are
abbrev pub invariant-loop-rest : goal.invariant-loop-rest
invariant-loop-rest l = (uris : List (List ℕ)) → AreItems (Within 0x30 IsPoint) l.rest (map point_of_uri uris) → (all : List (List ℕ)) × AreItems (Within 0x30 IsPoint) l.points (map point_of_uri all)

abbrev pub decreases-loop-rest : goal.decreases-loop-rest
decreases-loop-rest l = length l.rest
