use Rattle.ts_make.proofs.ToldNames.{points-told}
use Rattle.ts_make.proofs.laws.distribution_points.Goals as goal

pub returns : goal.returns
returns c = points-told
