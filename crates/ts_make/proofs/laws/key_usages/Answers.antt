use Rattle.ts_make.proofs.ToldUsage.{usage-told, bit-told}
use Rattle.ts_make.proofs.laws.key_usages.Goals as goal

pub returns-clause-value : goal.returns-clause-value
returns-clause-value c = usage-told

pub returns-clause-bits : goal.returns-clause-bits
returns-clause-bits c = bit-told
