use Rattle.ts_cli.specs.Shapes.{commands}
use Rattle.ts_cli.proofs.command_shape.commands.Goals as goal

pub returns : goal.returns
unfolding commands
returns c =
    let id = c.with_own-all.ensures _ _ c.option.ensures.rule c.choice-all.ensures in
    let force = c.with_own-all-2.ensures _ _ c.flag.ensures.rule id in
    let add = c.among-all.ensures _ _ force c.reading.ensures.shape in
    let withdraw = c.among-all-2.ensures _ _ add c.naming.ensures.shape in
    let load = c.among-all-3.ensures _ _ withdraw c.load.ensures.shape in
    let drop_list = c.among-all-4.ensures _ _ load c.naming-2.ensures.shape in
    let purposes = c.among-all-5.ensures _ _ drop_list c.purposes.ensures.shape in
    c.command_of.ensures _ (c.among.ensures _ _ purposes c.leaf.ensures.shape)
