use Rattle.std.proofs.Common.{◌≡◌, drop}
use Rattle.std.specs.List.{list_all}
use Rattle.ts_line.specs.Lines.{is_printable}
use Rattle.ts_show.proofs.lines.are_printable.Given as goal

abbrev pub invariant-loop-line : goal.invariant-loop-line
invariant-loop-line l = list_all (list_all is_printable) (drop l.line-index l.lines) ≡ list_all (list_all is_printable) l.lines
