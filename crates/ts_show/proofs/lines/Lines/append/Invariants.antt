use Rattle.std.proofs.Common.{◌≡◌, ◌++◌}
use Rattle.ts_show.proofs.lines.Lines.append.Given as goal

abbrev pub invariant-loop-line : goal.invariant-loop-line
invariant-loop-line l = l.self-inside.lines.items ≡ l.fn.self ++ l.yielded
