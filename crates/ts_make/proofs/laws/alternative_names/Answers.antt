use Rattle.ts_make.proofs.ToldNames.{names-told}
use Rattle.ts_make.proofs.laws.alternative_names.Goals as goal

pub returns : goal.returns
returns c = names-told
