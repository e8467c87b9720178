use Rattle.ts_cli.specs.Shapes.{format}
use Rattle.ts_cli.proofs.program_shape.format.Goals as goal

pub returns-clause-shape : goal.returns-clause-shape
unfolding format
returns-clause-shape c =
    let file = c.with-command.ensures.shape _ _ c.word.ensures.rule c.leaf.ensures.shape in
    let id = c.with.ensures.shape _ _ (c.mandatory-id.ensures.rule _ c.option.ensures.rule) file in
    let nodes = c.with-2.ensures.shape _ _ (c.mandatory-nodes.ensures.rule _ c.option-2.ensures.rule) id in
    c.with-3.ensures.shape _ _ c.option-3.ensures.rule nodes
