use Rattle.ts_cli.specs.Shapes.{purposes}
use Rattle.ts_cli.proofs.command_shape.purposes.Goals as goal

pub returns-clause-shape : goal.returns-clause-shape
unfolding purposes
returns-clause-shape c =
    let anchor = c.with-command.ensures.shape _ _ c.word.ensures.rule c.leaf-command.ensures.shape in
    c.with.ensures.shape _ _ c.words.ensures.rule anchor
