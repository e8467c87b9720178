use Rattle.std.proofs.Common.{◌≡◌, ◌∙◌, max, sym, ap, subst}
use Rattle.ts_synod.specs.Force.{used_round}
use Rattle.ts_proposer.specs.Proposer.{used_of}
use Rattle.ts_proposer.specs.Steps.{used_after}
use Rattle.ts_proposer.proofs.OneMore.{used_more}
use Rattle.ts_proposer.proofs.proposer.Proposer.keep.Goals as goal

pub returns-in-Nothing-clause-used : goal.returns-in-Nothing-clause-used
returns-in-Nothing-clause-used g c = λ facts h.
    let a = c.args.self.now in
    subst (λ change. used_after a change ≡ max (used_of a) (used_round c.args.step.facts.items))
    c.in-Nothing.is c.requires.1 ∙ ap (λ u. max u (used_round c.args.step.facts.items)) h
    ∙ sym (used_more facts c.args.step.facts.items)

pub returns-in-Collect-clause-used : goal.returns-in-Collect-clause-used
returns-in-Collect-clause-used g c = λ facts h.
    let a = c.args.self.now in
    subst (λ change. used_after a change ≡ max (used_of a) (used_round c.args.step.facts.items))
    c.in-Collect.is c.requires.1 ∙ ap (λ u. max u (used_round c.args.step.facts.items)) h
    ∙ sym (used_more facts c.args.step.facts.items)

pub returns-clause-used : goal.returns-clause-used
returns-clause-used g c = λ facts h.
    let a = c.args.self.now in
    subst (λ change. used_after a change ≡ max (used_of a) (used_round c.args.step.facts.items))
    c.in-Become.is c.requires.1 ∙ ap (λ u. max u (used_round c.args.step.facts.items)) h
    ∙ sym (used_more facts c.args.step.facts.items)
