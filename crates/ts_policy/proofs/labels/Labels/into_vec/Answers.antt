use Rattle.std.proofs.Common.{subst}
use Rattle.ts_policy.specs.Accepted.{AreAscending}
use Rattle.ts_policy.proofs.Sorted.{ascends}
use Rattle.ts_policy.proofs.labels.Labels.into_vec.Goals as goal

pub returns-clause-ascending : goal.returns-clause-ascending
returns-clause-ascending c = subst AreAscending c.self.view_is (ascends (λ x. x.content.now) c.self.inside.sorted.items c.self.invariant)
