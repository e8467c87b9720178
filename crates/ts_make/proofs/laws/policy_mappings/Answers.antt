use Rattle.ts_make.proofs.ToldCrls.{mappings-told}
use Rattle.ts_make.proofs.laws.policy_mappings.Goals as goal

pub returns : goal.returns
returns c = mappings-told
