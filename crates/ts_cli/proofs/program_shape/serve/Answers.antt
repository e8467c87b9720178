use Rattle.ts_cli.specs.Shapes.{serve}
use Rattle.ts_cli.proofs.program_shape.serve.Goals as goal

pub returns-clause-shape : goal.returns-clause-shape
unfolding serve
returns-clause-shape c =
    let file = c.with-command.ensures.shape _ _ c.word.ensures.rule c.leaf.ensures.shape in
    let listen = c.with.ensures.shape _ _ (c.mandatory-listen.ensures.rule _ c.option.ensures.rule) file in
    let table = c.with-command-2.ensures.shape _ _ c.option-2.ensures.rule listen in
    let stand_in = c.with-command-3.ensures.shape _ _ c.flag.ensures.rule table in
    c.with_limits.ensures.shape _ (c.with_access.ensures.shape _ (c.with_group.ensures.shape _ stand_in))
