use Rattle.ts_cli.specs.Shapes.{search}
use Rattle.ts_cli.proofs.question_shape.search.Goals as goal

pub returns-clause-shape : goal.returns-clause-shape
unfolding search
returns-clause-shape c =
    let first = c.with-command.ensures.shape _ _ c.word.ensures.rule c.leaf-command.ensures.shape in
    c.with_terms.ensures.shape _ (c.with-command-2.ensures.shape _ _ c.words.ensures.rule first)
