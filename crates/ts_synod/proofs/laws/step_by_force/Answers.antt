use Rattle.ts_synod.proofs.laws.step_by_force.Goals as goal
use Rattle.ts_synod.proofs.Same.{same_step}

pub returns : goal.returns
returns g c = λ store config fs gs volatile sent input same. same_step store config fs gs same volatile sent input
