use Rattle.ts_cli.specs.Shapes.{with_limits}
use Rattle.ts_cli.proofs.program_shape.with_limits.Goals as goal

pub returns-clause-shape : goal.returns-clause-shape
unfolding with_limits
returns-clause-shape c shape given =
    let idle = c.with-all.ensures.shape _ _ c.option.ensures.rule given in
    let request = c.with-all-2.ensures.shape _ _ c.option-2.ensures.rule idle in
    let at_once = c.with-all-3.ensures.shape _ _ c.option-3.ensures.rule request in
    c.with.ensures.shape _ _ c.option-4.ensures.rule at_once
