use Rattle.ts_cli.proofs.program_shape.reaching.Goals as goal

pub returns-clause-shape : goal.returns-clause-shape
returns-clause-shape c = c.with_key.ensures.shape _ (c.with.ensures.shape _ _ c.word-address.ensures.rule c.leaf.ensures.shape)
