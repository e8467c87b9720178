use Rattle.std.proofs.Common.{◌≡◌, length}
use Rattle.std.specs.Prelude.{map}
use Rattle.ts_constraint.specs.inside.Quads.{as_masked}
use Rattle.ts_constraint.specs.inside.Ranges.{is_in_one}
use Rattle.ts_constraint.proofs.masked.is_in_quad.Given as goal

abbrev pub invariant-loop-rest : goal.invariant-loop-rest
invariant-loop-rest l = is_in_one (map as_masked l.ranges) l.address ≡ is_in_one (map as_masked l.rest) l.address

abbrev pub decreases-loop-rest : goal.decreases-loop-rest
decreases-loop-rest l = length l.rest
