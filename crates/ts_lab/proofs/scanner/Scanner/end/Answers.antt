-- The script ended where a line would begin, or its last line is answered.
use Rattle.std.proofs.Common.{◌≡◌, ◌∙◌, length, sym, arith, vec_len}
use Rattle.std.proofs.lemmas.Bool.{eqb-true, eqb-false}
use Rattle.ts_script.specs.Known.{known_in}
use Rattle.ts_script.proofs.Cutting.{no_items, some_items}
use Rattle.ts_lab.proofs.Scanning.{closes, closes_empty}
use Rattle.ts_lab.proofs.scanner.Scanner.end.Goals as goal

pub returns-then-is_empty-clause-closes : goal.returns-then-is_empty-clause-closes
returns-then-is_empty-clause-closes g c =
    let line = c.args.self.now.line in
    let len : vec_len line ≡ length line.items = omega (arith, line.ok.0) in
    let none = eqb-true (vec_len line) 0 (sym c.is_empty.ensures ∙ c.if-is_empty.true) in
    closes_empty c.args.self.now.number (known_in c.args.self.now.known) line.items (g.W.Write.contents c.args.writer.now) (no_items line.items (sym len ∙ none))

pub returns-else-is_empty-clause-closes : goal.returns-else-is_empty-clause-closes
returns-else-is_empty-clause-closes g c =
    let line = c.args.self.now.line in
    let len : vec_len line ≡ length line.items = omega (arith, line.ok.0) in
    let some = eqb-false (vec_len line) 0 (sym c.is_empty.ensures ∙ c.if-is_empty.false) in
    closes (Unit {0}) c.finish.result c.args.self.now c.finish.new.self (g.W.Write.contents c.args.writer.now) (g.W.Write.contents c.finish.new.writer)
    (some_items line.items (λ e. some (len ∙ e))) c.finish.ensures.finishes
