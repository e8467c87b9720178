use Rattle.ts_cli.specs.Shapes.{with_flags}
use Rattle.ts_cli.proofs.question_shape.with_flags.Goals as goal

pub returns-clause-shape : goal.returns-clause-shape
unfolding with_flags
returns-clause-shape c shape given =
    let hard = c.with-all.ensures.shape _ _ c.flag.ensures.rule given in
    let deltas = c.with-all-2.ensures.shape _ _ c.flag-2.ensures.rule hard in
    let explicit = c.with-all-3.ensures.shape _ _ c.flag-3.ensures.rule deltas in
    let nomap = c.with-all-4.ensures.shape _ _ c.flag-4.ensures.rule explicit in
    c.with.ensures.shape _ _ c.flag-5.ensures.rule nomap
