use Rattle.ts_cli.proofs.program_shape.sending.Goals as goal

pub returns-clause-shape : goal.returns-clause-shape
returns-clause-shape c = c.with_key.ensures.shape _ (c.with-2.ensures.shape _ _ c.word-file.ensures.rule (c.with.ensures.shape _ _ c.word-address.ensures.rule c.leaf.ensures.shape))
