use Rattle.std.proofs.Common.{sym, ◌∙◌}
use Rattle.ts_name.proofs.laws.same_is_an_equivalence.Goals as goal

pub returns-clause-turned : goal.returns-clause-turned
returns-clause-turned c = λ a b one. sym one

pub returns-clause-chained : goal.returns-clause-chained
returns-clause-chained c = λ a b d one two. one ∙ two
