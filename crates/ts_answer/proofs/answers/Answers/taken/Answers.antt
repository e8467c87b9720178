use Rattle.std.proofs.Common.{arith}
use Rattle.ts_answer.proofs.answers.Answers.taken.Goals as goal

pub returns-clause-few : goal.returns-clause-few
returns-clause-few g c = let few = c.self.invariant.2.few in let e = c.count.ensures in omega (arith, few, e)
