use Rattle.ts_make.proofs.ToldCrls.{policies-told}
use Rattle.ts_make.proofs.laws.policies.Goals as goal

pub returns : goal.returns
returns c = policies-told
