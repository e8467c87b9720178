use Rattle.std.proofs.Common.{◌≡◌, drop}
use Rattle.ts_disk.specs.Crash.{left_of}
use Rattle.ts_disk.proofs.crash.leave.Given as goal

abbrev pub invariant-loop-call : goal.invariant-loop-call
invariant-loop-call l = left_of l.torn l.read.items l.left.items (drop l.call-index l.calls) ≡ left_of l.torn l.first l.first l.calls
