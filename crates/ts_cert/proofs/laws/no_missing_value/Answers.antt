use Rattle.ts_cert.proofs.StatedValues.{has-value, keeps-rules}
use Rattle.ts_cert.proofs.laws.no_missing_value.Goals as goal

pub returns-clause-has_value : goal.returns-clause-has_value
returns-clause-has_value c = has-value

pub returns-clause-keeps_rules : goal.returns-clause-keeps_rules
returns-clause-keeps_rules c = keeps-rules
