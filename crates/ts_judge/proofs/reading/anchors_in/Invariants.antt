use Rattle.std.proofs.Common.{◌≡◌, ◌+◌, ◌++◌, map, drop, length}
use Rattle.ts_path.specs.View.{anchor_in}
use Rattle.ts_given.specs.Given.{octets_of}
use Rattle.ts_judge.specs.Given.{anchors_of}
use Rattle.ts_judge.proofs.reading.anchors_in.Given as goal

abbrev pub invariant-loop-octets : goal.invariant-loop-octets
invariant-loop-octets l = record {
  read : map anchor_in l.anchors.items ++ anchors_of (octets_of (drop l.octets-index l.bundle)) ≡ anchors_of (octets_of l.bundle);
  count : length l.anchors.items + length (anchors_of (octets_of (drop l.octets-index l.bundle))) ≡ length (anchors_of (octets_of l.bundle));
}
