use Rattle.ts_cli.specs.Shapes.{submit}
use Rattle.ts_cli.proofs.program_shape.submit.Goals as goal

pub returns-clause-shape : goal.returns-clause-shape
unfolding submit
returns-clause-shape c = c.with.ensures.shape _ _ c.option.ensures.rule c.sending-command.ensures.shape
