use Rattle.std.proofs.Common.{◌≡◌, ◌↔◌, List, drop}
use Rattle.std.specs.Prelude.{map}
use Rattle.ts_name.specs.inside.Sorted.{canon_of}
use Rattle.ts_name.proofs.ordering.are_one.Given as goal

abbrev pub invariant-loop-i : goal.invariant-loop-i
invariant-loop-i l = (map canon_of l.a ≡ map canon_of l.b) ↔ (map canon_of (drop l.i l.a) ≡ map canon_of (drop l.i l.b))
