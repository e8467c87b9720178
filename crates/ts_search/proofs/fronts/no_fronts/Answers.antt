use Rattle.ts_search.specs.inside.Dead.{fronts_in}
use Rattle.ts_search.proofs.DeadFronts.{none-dead}
use Rattle.ts_search.proofs.fronts.no_fronts.Goals as goal

pub returns-clause-dead : goal.returns-clause-dead
returns-clause-dead c = λ asked certificates under. none-dead asked certificates under (fronts_in c.loop-anchor.fronts.items) c.loop-anchor.invariant.empty
