use Rattle.ts_cli.specs.Shapes.{with_access}
use Rattle.ts_cli.proofs.program_shape.with_access.Goals as goal

pub returns-clause-shape : goal.returns-clause-shape
unfolding with_access
returns-clause-shape c shape given =
    let keys = c.with-all.ensures.shape _ _ c.option.ensures.rule given in
    let key = c.with-all-2.ensures.shape _ _ c.option-2.ensures.rule keys in
    let http = c.with-all-3.ensures.shape _ _ c.option-3.ensures.rule key in
    c.with.ensures.shape _ _ c.flag.ensures.rule http
