use Rattle.std.proofs.Common.{◌≡◌, ◌++◌, take}
use Rattle.ts_line.specs.Lines.{printable}
use Rattle.ts_line.proofs.line.Line.text.Given as goal

abbrev pub invariant-loop-octet : goal.invariant-loop-octet
invariant-loop-octet l = l.self ≡ l.fn.self ++ printable (take l.octet-index l.octets)
