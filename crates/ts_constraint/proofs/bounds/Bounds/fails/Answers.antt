use Rattle.std.proofs.Common.{◌≡◌, ◌↔◌, IsTrue, subst}
use Rattle.ts_name.specs.General.{GeneralName}
use Rattle.ts_constraint.specs.Conditions.{NameFails}
use Rattle.ts_constraint.proofs.bounds.Bounds.fails.Goals as goal

pub returns : goal.returns
returns c = subst (λ (x : GeneralName). IsTrue c.fails_sought.result ↔ NameFails c.args.condition c.args.self.now x) c.new.ensures c.fails_sought.ensures
