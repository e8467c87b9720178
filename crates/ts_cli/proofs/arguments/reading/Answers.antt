use Rattle.ts_cli.proofs.arguments.reading.Goals as goal

pub returns-clause-shape : goal.returns-clause-shape
returns-clause-shape c = c.with.ensures.shape _ _ c.word-file.ensures.rule c.leaf.ensures.shape
