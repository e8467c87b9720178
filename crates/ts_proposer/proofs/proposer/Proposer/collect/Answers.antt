use Rattle.std.proofs.Common.{◌≡◌, Some, true, is_some, sym, subst}
use Rattle.ts_synod.specs.Lists.{update_at}
use Rattle.ts_synod.specs.Majority.{is_majority}
use Rattle.ts_proposer.specs.Promises.{promises_in}
use Rattle.ts_proposer.specs.Proposer.{config_of, state_of}
use Rattle.ts_proposer.specs.Steps.{Makes}
use Rattle.ts_proposer.proofs.Rules.{majority}
use Rattle.ts_proposer.proofs.proposer.Proposer.collect.Goals as goal

pub returns-then-has_majority-clause-step : goal.returns-then-has_majority-clause-step
returns-then-has_majority-clause-step g c = λ phase.
    let a = c.args.self.now in
    let promises = update_at (promises_in a.promises) c.args.from (Some c.args.taken) in
    let most : is_majority a.nodes (λ n. is_some (promises n)) ≡ true = cc in
    subst (Makes a c.in_ok-step.step)
    (sym (majority (config_of a) (state_of a)
    (record { number = c.args.round.number; position = c.args.round.position; phase = phase })
    promises most)) (c.in_ok-step.ensures.step phase)
