use Rattle.ts_cli.specs.Shapes.{node_tasks, lab}
use Rattle.ts_cli.proofs.program_shape.node_tasks.Goals as goal

pub returns : goal.returns
unfolding node_tasks lab
returns c =
    let lab = c.among-program.ensures _ _ (c.with_version-program.ensures _ c.choice.ensures) c.leaf.ensures.shape in
    let format = c.among-program-2.ensures _ _ lab c.format.ensures.shape in
    let migrate = c.among-program-3.ensures _ _ format c.migrate.ensures.shape in
    let serve = c.among-program-4.ensures _ _ migrate c.serve.ensures.shape in
    let submit = c.among-program-5.ensures _ _ serve c.submit.ensures.shape in
    let ask = c.among-program-6.ensures _ _ submit (c.with_verdict.ensures.shape _ c.sending-ask.ensures.shape) in
    c.among.ensures _ _ ask c.carry.ensures.shape
