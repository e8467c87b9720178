use Rattle.ts_make.proofs.ToldNames.{constraints-told}
use Rattle.ts_make.proofs.laws.name_constraints.Goals as goal

pub returns : goal.returns
returns c = constraints-told
