-- The line said its text, or was refused.
use Rattle.std.proofs.Common.{ℕ, ◌+◌, refl, ap, subst, Result}
use Rattle.ts_lab.specs.declared.scanner.Scanner.{Scanner}
use Rattle.ts_lab.specs.declared.scanner.Stop.{Stop}
use Rattle.ts_lab.specs.inside.Scanner.{Finishes}
use Rattle.ts_lab.proofs.Reading.{scans_said, scans_refused}
use Rattle.ts_lab.proofs.scanner.Scanner.next.Goals as goal

pub returns-in-Ok-clause-scans : goal.returns-in-Ok-clause-scans
returns-in-Ok-clause-scans g c =
    let before = g.W.Write.contents c.args.writer.now in
    let after = g.W.Write.contents c.finish.new.writer in
    let mid = c.finish.new.self in
    let new : Scanner = record { number = mid.number + 1; line = c.clear.new.self; known = mid.known; nodes = mid.nodes } in
    let said = subst (λ (r : Result (Unit {0}) Stop). Finishes c.args.self.now mid before after r) c.in-Ok.is c.finish.ensures.finishes in
    scans_said c.args.self.now mid new before after said (ap (λ (n : ℕ). n + 1) c.finish.ensures.number) c.clear.ensures.items refl

pub returns-in-Err-clause-scans : goal.returns-in-Err-clause-scans
returns-in-Err-clause-scans g c =
    let before = g.W.Write.contents c.args.writer.now in
    let after = g.W.Write.contents c.finish.new.writer in
    let finishes = subst (λ (r : Result (Unit {0}) Stop). Finishes c.args.self.now c.finish.new.self before after r) c.in-Err.is c.finish.ensures.finishes in
    scans_refused (Unit {0}) (Unit {0}) c.args.self.now c.finish.new.self c.finish.new.self before after c.in-Err.stop finishes
