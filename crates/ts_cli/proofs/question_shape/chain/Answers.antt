use Rattle.ts_cli.specs.Shapes.{chain}
use Rattle.ts_cli.proofs.question_shape.chain.Goals as goal

pub returns-clause-shape : goal.returns-clause-shape
unfolding chain
returns-clause-shape c =
    let anchor = c.with-command.ensures.shape _ _ (c.mandatory.ensures.rule _ c.option.ensures.rule) c.leaf-command.ensures.shape in
    let certificates = c.with-command-2.ensures.shape _ _ (c.mandatory-2.ensures.rule _ c.words.ensures.rule) anchor in
    c.with_terms.ensures.shape _ certificates
