use Rattle.std.proofs.Common.{◌∙◌, sym, subst}
use Rattle.ts_synod.specs.Proposer.{begin_phase_2}
use Rattle.ts_proposer.specs.Proposer.{config_of, state_of}
use Rattle.ts_proposer.specs.Steps.{Makes}
use Rattle.ts_proposer.proofs.proposer.Proposer.begin_phase_2.Goals as goal

pub returns-in_ok-step-in-Some-clause-step : goal.returns-in_ok-step-in-Some-clause-step
returns-in_ok-step-in-Some-clause-step g c = λ phase.
    let a = c.args.self.now in
    subst (λ o. Makes a c.in_ok-step-in-Some.step
    (begin_phase_2 (config_of a) (state_of a)
    (record { number = c.args.round.number; position = c.args.round.position; phase = phase })
    o)) (sym c.in-Some.is ∙ c.in_ok-command.ensures) (c.in_ok-step-in-Some.ensures.step phase)
