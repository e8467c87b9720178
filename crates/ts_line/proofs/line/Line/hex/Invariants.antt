use Rattle.std.proofs.Common.{◌≡◌, ◌++◌, take}
use Rattle.ts_line.specs.Lines.{hex}
use Rattle.ts_line.proofs.line.Line.hex.Given as goal

abbrev pub invariant-loop-octet : goal.invariant-loop-octet
invariant-loop-octet l = l.self ≡ l.fn.self ++ hex (take l.octet-index l.octets)
