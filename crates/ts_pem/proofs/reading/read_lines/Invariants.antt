use Rattle.std.proofs.Common.{◌≡◌, ◌≤◌, ◌+◌, length}
use Rattle.ts_pem.specs.Pem.{blocks_of, blocks_from, lines}
use Rattle.ts_pem.proofs.reading.read_lines.Given as goal

abbrev pub invariant-loop-reading : goal.invariant-loop-reading
invariant-loop-reading l = record {
  same : blocks_of l.text ≡ blocks_from l.number (lines l.rest) l.reading;
  number : l.number + length l.rest ≤ length l.text + 1;
}

abbrev pub decreases-loop-reading : goal.decreases-loop-reading
decreases-loop-reading l = length l.rest
