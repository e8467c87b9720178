use Rattle.ts_cli.proofs.command_shape.naming.Goals as goal

pub returns-clause-shape : goal.returns-clause-shape
returns-clause-shape c = c.with.ensures.shape _ _ c.word.ensures.rule c.leaf.ensures.shape
