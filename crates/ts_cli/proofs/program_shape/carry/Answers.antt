use Rattle.ts_cli.specs.Shapes.{carry}
use Rattle.ts_cli.proofs.program_shape.carry.Goals as goal

pub returns-clause-shape : goal.returns-clause-shape
unfolding carry
returns-clause-shape c =
    let addresses = c.with.ensures.shape _ _ (c.mandatory-addresses.ensures.rule _ c.words.ensures.rule) c.leaf-command.ensures.shape in
    c.with-2.ensures.shape _ _ (c.mandatory-rounds.ensures.rule _ c.option.ensures.rule) addresses
