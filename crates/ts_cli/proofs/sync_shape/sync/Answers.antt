use Rattle.ts_cli.specs.Shapes.{sync}
use Rattle.ts_cli.proofs.sync_shape.sync.Goals as goal

pub returns-clause-shape : goal.returns-clause-shape
unfolding sync
returns-clause-shape c =
    let material = c.with_material-command.ensures.shape _ c.reaching.ensures.shape in
    let dry = c.with-command.ensures.shape _ _ c.flag.ensures.rule material in
    c.with.ensures.shape _ _ c.option.ensures.rule dry
