use Rattle.std.proofs.Common.{◌≡◌, ◌∙◌, Some, ap, sym, subst, arith}
use Rattle.ts_proposer.specs.Proposer.{config_of, state_of, used_of}
use Rattle.ts_proposer.specs.Steps.{Makes}
use Rattle.ts_proposer.proofs.Rules.{again}
use Rattle.ts_proposer.proofs.proposer.Proposer.on_growth.Goals as goal

pub returns-clause-step : goal.returns-clause-step
returns-clause-step g c =
    let a = c.args.self.now in
    let copy = c.in_ok-try_copy.field-0 in
    let wanted : a.state.wanted ≡ Some copy = c.in-Some.is ∙ ap (λ d. Some d) (sym c.in_ok-try_copy.ensures.copy) in
    subst (Makes a c.in_ok-step.step)
    (sym (again (config_of a) (used_of a) (state_of a) c.args.next copy c.in-Some-next.position
    wanted c.in-Some-next.is (omega (arith, c.greatest_round.ensures)))) c.in_ok-step.ensures.step
