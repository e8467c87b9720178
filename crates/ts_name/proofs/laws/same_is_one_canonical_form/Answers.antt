use Rattle.ts_name.proofs.SameNames.{decides}
use Rattle.ts_name.proofs.laws.same_is_one_canonical_form.Goals as goal

pub returns : goal.returns
returns c = decides
