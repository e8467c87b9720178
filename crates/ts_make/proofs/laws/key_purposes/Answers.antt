use Rattle.ts_make.proofs.ToldCrls.{purposes-told}
use Rattle.ts_make.proofs.laws.key_purposes.Goals as goal

pub returns : goal.returns
returns c = purposes-told
