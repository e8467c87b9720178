use Rattle.std.proofs.Common.{IfOk, subst, sym}
use Rattle.ts_judge.specs.Explained.{Explains}
use Rattle.ts_judge.proofs.printed.explanation.Goals as goal

pub returns-in-Invalid : goal.returns-in-Invalid
returns-in-Invalid c =
    subst (λ f. IfOk c.invalid_line.result (Explains c.args.report.now f)) (sym c.in-Invalid.is) c.invalid_line.ensures
