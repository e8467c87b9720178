use Rattle.std.proofs.Common.{◌∙◌, ◌++◌, append_assoc, ap, sym, subst}
use Rattle.ts_node.specs.Roles.{StandFor}
use Rattle.ts_node.specs.inside.Roles.{IsLatest, facts_in}
use Rattle.ts_node.proofs.roles.Roles.keep.Goals as goal

pub returns-in-Grow-clause-stand : goal.returns-in-Grow-clause-stand
returns-in-Grow-clause-stand g c = λ facts h.
    let learn = c.in-Grow.learn.facts.items in
    let propose = c.in-Grow.propose.facts.items in
    let is = subst (IsLatest c.args.self.now) c.in-Grow.is c.requires in
    let e = append_assoc facts learn propose ∙ ap (λ more. facts ++ more) (sym is.3) ∙ ap (λ change. facts ++ facts_in change) (sym c.in-Grow.is) in
    subst (StandFor c.keep_propose-in-Grow.new.self) e (c.keep_propose-in-Grow.ensures.stand (facts ++ learn) (c.keep_learn-in-Grow.ensures.stand facts h))
