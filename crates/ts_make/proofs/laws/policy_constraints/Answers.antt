use Rattle.ts_make.proofs.ToldNumbers.{policy_constraints-told}
use Rattle.ts_make.proofs.laws.policy_constraints.Goals as goal

pub returns : goal.returns
returns c = policy_constraints-told
