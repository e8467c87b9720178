use Rattle.ts_cli.specs.Shapes.{replay}
use Rattle.ts_cli.proofs.program_shape.replay.Goals as goal

pub returns-clause-shape : goal.returns-clause-shape
unfolding replay
returns-clause-shape c =
    let file = c.with-command.ensures.shape _ _ c.word.ensures.rule c.leaf.ensures.shape in
    let address = c.with_key-command.ensures.shape _ (c.with.ensures.shape _ _ c.word-address.ensures.rule file) in
    c.with-2.ensures.shape _ _ c.option.ensures.rule address
