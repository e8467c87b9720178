use Rattle.std.proofs.Common.{◌≡◌, take}
use Rattle.ts_line.specs.Lines.{text_of}
use Rattle.ts_show.proofs.lines.ended_lines.Given as goal

abbrev pub invariant-loop-line : goal.invariant-loop-line
invariant-loop-line l = l.text.items ≡ text_of (take l.line-index l.lines)
