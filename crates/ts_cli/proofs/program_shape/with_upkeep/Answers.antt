use Rattle.ts_cli.specs.Shapes.{with_upkeep}
use Rattle.ts_cli.proofs.program_shape.with_upkeep.Goals as goal

pub returns : goal.returns
unfolding with_upkeep
returns c app given =
    let status = c.among-program.ensures _ _ given c.reaching.ensures.shape in
    let identify = c.among-program-2.ensures _ _ status c.reaching-2.ensures.shape in
    let catch_up = c.among-program-3.ensures _ _ identify c.reaching-3.ensures.shape in
    let compact = c.among-program-4.ensures _ _ catch_up c.reaching-4.ensures.shape in
    c.among.ensures _ _ compact c.keygen.ensures.shape
