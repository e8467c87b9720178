use Rattle.ts_name.proofs.NameLists.{within-itself, within-within, within-both}
use Rattle.ts_name.proofs.laws.within_is_an_order.Goals as goal

pub returns-clause-itself : goal.returns-clause-itself
returns-clause-itself c = within-itself

pub returns-clause-chained : goal.returns-clause-chained
returns-clause-chained c = within-within

pub returns-clause-both : goal.returns-clause-both
returns-clause-both c = within-both
