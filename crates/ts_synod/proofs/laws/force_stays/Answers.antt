use Rattle.ts_synod.proofs.laws.force_stays.Goals as goal
use Rattle.ts_synod.proofs.Same.{same_append}

pub returns : goal.returns
returns g c = λ fs gs more same. same_append fs gs more same
