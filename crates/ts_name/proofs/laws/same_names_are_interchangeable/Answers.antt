use Rattle.ts_name.proofs.NameLists.{within-for-the-same}
use Rattle.ts_name.proofs.laws.same_names_are_interchangeable.Goals as goal

pub returns : goal.returns
returns c = within-for-the-same
