-- The scanner has answered what the reader has given, in pieces that the buffer holds.
use Rattle.std.proofs.Common.{◌≡◌, ◌+◌, ◌*◌, ◌≤◌, length}
use Rattle.ts_lab.specs.inside.Scanner.{IsScanOf}
use Rattle.ts_lab.proofs.stream.first_wrong_line.Given as goal

abbrev pub invariant-loop-read : goal.invariant-loop-read
invariant-loop-read g l = record {
  scan : IsScanOf (g.R.Read.remaining l.initial.reader) (g.R.Read.remaining l.reader) (g.W.Write.contents l.initial.writer) (g.W.Write.contents l.writer) l.scanner;
  room : length l.buffer ≡ 8192;
  counts : l.scanner.number ≤ 1 + l._read * 8192;
}
