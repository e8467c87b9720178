-- The scanner at the start owes of all what the scanner now owes of what follows the octets that it took.
use Rattle.std.proofs.Common.{◌+◌, ◌≤◌, ◌++◌, List, ℕ, drop, Option}
use Rattle.ts_script.specs.declared.script.WrongLine.{WrongLine}
use Rattle.ts_lab.specs.inside.Scanner.{Owes}
use Rattle.ts_lab.proofs.scanner.Scanner.feed.Given as goal

abbrev pub invariant-loop-octet : goal.invariant-loop-octet
invariant-loop-octet g l = record {
  scans : (rest : List ℕ) (whole : Option (List ℕ)) (wrong : Option WrongLine) → Owes l.self (g.W.Write.contents l.writer) (drop l.octet-index l.piece ++ rest) whole wrong
      → Owes l.initial.self (g.W.Write.contents l.initial.writer) (l.piece ++ rest) whole wrong;
  counts : l.self.number ≤ l.initial.self.number + l.octet-index;
}
