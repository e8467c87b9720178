use Rattle.ts_cli.specs.Shapes.{program}
use Rattle.ts_cli.proofs.program_shape.program.Goals as goal

pub returns : goal.returns
unfolding program
returns c =
    let verify = c.among-program.ensures _ _ c.node_tasks.ensures c.verify.ensures.shape in
    let command = c.among-program-2.ensures _ _ verify c.leaf.ensures.shape in
    let question = c.among-program-3.ensures _ _ command c.leaf-2.ensures.shape in
    let id = c.among-program-4.ensures _ _ question c.reading.ensures.shape in
    let show = c.among-program-5.ensures _ _ id c.reading-2.ensures.shape in
    let listed = c.with_listings-program.ensures _ (c.with_upkeep.ensures _ show) in
    let synced = c.among-program-6.ensures _ _ listed c.sync.ensures.shape in
    c.command_of.ensures _ (c.among.ensures _ _ synced c.replay.ensures.shape)
