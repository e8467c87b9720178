use Rattle.ts_cli.specs.Shapes.{with_group}
use Rattle.ts_cli.proofs.program_shape.with_group.Goals as goal

pub returns-clause-shape : goal.returns-clause-shape
unfolding with_group
returns-clause-shape c shape given =
    let peers = c.with-all.ensures.shape _ _ c.options.ensures.rule given in
    c.with.ensures.shape _ _ c.flag.ensures.rule peers
