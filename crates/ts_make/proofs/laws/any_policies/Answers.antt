use Rattle.ts_make.proofs.ToldNumbers.{any-policy-told}
use Rattle.ts_make.proofs.laws.any_policies.Goals as goal

pub returns : goal.returns
returns c = any-policy-told
