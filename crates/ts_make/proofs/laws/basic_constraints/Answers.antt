use Rattle.ts_make.proofs.ToldNumbers.{basic_constraints-told}
use Rattle.ts_make.proofs.laws.basic_constraints.Goals as goal

pub returns : goal.returns
returns c = basic_constraints-told
