use Rattle.std.proofs.Common.{◌≡◌, length}
use Rattle.std.specs.Ordering.{nat_cmp}
use Rattle.ts_constraint.specs.inside.Ending.{octets}
use Rattle.ts_constraint.specs.inside.Fronts.{front_cmp}
use Rattle.ts_constraint.proofs.ending.Ending.front_order.Given as goal

abbrev pub invariant-loop-octet : goal.invariant-loop-octet
invariant-loop-octet l = front_cmp nat_cmp (octets l.fn.self) (octets l.fn.whole) ≡ front_cmp nat_cmp (octets l.front) (octets l.whole)

abbrev pub decreases-loop-octet : goal.decreases-loop-octet
decreases-loop-octet l = length (octets l.front)
