use Rattle.ts_crl.proofs.StatedValues.{scope-stated, number-stated, base-stated, key-stated, reason-stated, date-stated}
use Rattle.ts_crl.proofs.laws.no_missing_value.Goals as goal

pub returns-clause-scope : goal.returns-clause-scope
returns-clause-scope c = scope-stated

pub returns-clause-number : goal.returns-clause-number
returns-clause-number c = number-stated

pub returns-clause-base : goal.returns-clause-base
returns-clause-base c = base-stated

pub returns-clause-key : goal.returns-clause-key
returns-clause-key c = key-stated

pub returns-clause-reason : goal.returns-clause-reason
returns-clause-reason c = reason-stated

pub returns-clause-date : goal.returns-clause-date
returns-clause-date c = date-stated
