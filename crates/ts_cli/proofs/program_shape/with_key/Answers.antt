use Rattle.ts_cli.specs.Shapes.{with_key}
use Rattle.ts_cli.proofs.program_shape.with_key.Goals as goal

pub returns-clause-shape : goal.returns-clause-shape
unfolding with_key
returns-clause-shape c shape given = c.with.ensures.shape _ _ c.option.ensures.rule given
