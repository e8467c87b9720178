use Rattle.ts_show.proofs.OneKind.{one_kind}
use Rattle.ts_show.proofs.laws.one_kind.Goals as goal

pub returns : goal.returns
returns c = one_kind
