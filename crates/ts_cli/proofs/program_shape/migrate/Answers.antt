use Rattle.ts_cli.specs.Shapes.{migrate}
use Rattle.ts_cli.proofs.program_shape.migrate.Goals as goal

pub returns-clause-shape : goal.returns-clause-shape
unfolding migrate
returns-clause-shape c = c.with-2.ensures.shape _ _ c.word-new.ensures.rule (c.with.ensures.shape _ _ c.word-old.ensures.rule c.leaf.ensures.shape)
