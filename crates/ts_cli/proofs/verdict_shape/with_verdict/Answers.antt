use Rattle.ts_cli.specs.Shapes.{with_verdict}
use Rattle.ts_cli.proofs.verdict_shape.with_verdict.Goals as goal

pub returns-clause-shape : goal.returns-clause-shape
unfolding with_verdict
returns-clause-shape c shape given =
    let check = c.with-all.ensures.shape _ _ c.flag.ensures.rule given in
    c.with.ensures.shape _ _ c.flag-2.ensures.rule check
