use Rattle.std.proofs.Common.{◌≡◌, ◌++◌, take}
use Rattle.ts_line.specs.Lines.{kept}
use Rattle.ts_line.proofs.line.Line.shown.Given as goal

abbrev pub invariant-loop-octet : goal.invariant-loop-octet
invariant-loop-octet l = l.self ≡ l.fn.self ++ kept (take l.octet-index l.octets)
