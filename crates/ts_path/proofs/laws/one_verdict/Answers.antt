use Rattle.ts_path.proofs.OneVerdict.{one_least, one_verdict}
use Rattle.ts_path.proofs.laws.one_verdict.Goals as goal

pub returns-clause-least : goal.returns-clause-least
returns-clause-least c q i j k m a b = one_least q i j k m a b

pub returns-clause-invalid : goal.returns-clause-invalid
returns-clause-invalid c q i k a all = a.fails (all i k)

pub returns-clause-same : goal.returns-clause-same
returns-clause-same c = one_verdict
