use Rattle.ts_cli.specs.Shapes.{questions}
use Rattle.ts_cli.proofs.question_shape.questions.Goals as goal

pub returns : goal.returns
unfolding questions
returns c = c.command_of.ensures _ (c.among.ensures _ _ (c.among-all.ensures _ _ c.choice-all.ensures c.chain.ensures.shape) c.search.ensures.shape)
