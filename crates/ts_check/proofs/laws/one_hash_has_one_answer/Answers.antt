use Rattle.ts_check.proofs.OneHash.{one_hash}
use Rattle.ts_check.proofs.laws.one_hash_has_one_answer.Goals as goal

pub returns : goal.returns
returns c = one_hash
