use Rattle.ts_cli.specs.Shapes.{keygen}
use Rattle.ts_cli.proofs.program_shape.keygen.Goals as goal

pub returns-clause-shape : goal.returns-clause-shape
unfolding keygen
returns-clause-shape c =
    let role = c.with.ensures.shape _ _ c.word-role.ensures.rule c.leaf.ensures.shape in
    c.with-2.ensures.shape _ _ c.option.ensures.rule role
