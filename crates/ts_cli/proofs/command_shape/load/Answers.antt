use Rattle.ts_cli.specs.Shapes.{load}
use Rattle.ts_cli.proofs.command_shape.load.Goals as goal

pub returns-clause-shape : goal.returns-clause-shape
unfolding load
returns-clause-shape c =
    let issuers = c.with-command.ensures.shape _ _ c.options.ensures.rule c.reading-command.ensures.shape in
    c.with.ensures.shape _ _ c.flag.ensures.rule issuers
