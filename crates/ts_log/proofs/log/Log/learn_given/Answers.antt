use Rattle.std.proofs.Common.{◌∙◌, Some, ap, subst, length}
use Rattle.ts_synod.specs.Lists.{update_at}
use Rattle.ts_synod.specs.Log.{learn, prefix}
use Rattle.ts_log.specs.Log.{config_of, learned_of, received_of}
use Rattle.ts_log.specs.Steps.{Makes, asks}
use Rattle.ts_log.proofs.Asking.{asks_is}
use Rattle.ts_log.proofs.log.Log.learn_given.Goals as goal

pub returns-clause-step : goal.returns-clause-step
returns-clause-step g c =
    let a = c.args.self.now in
    let before = learned_of a in
    let now = update_at before c.args.position (Some c.args.command.now) in
    let e = c.in_ok-messages.ensures ∙ ap (λ n. asks (config_of a) (length (prefix before)) n c.args.from) c.count_with-count.ensures.count ∙ asks_is (config_of a) before now c.args.from in
    subst (λ ms. Makes a c.in_ok-step.step (learn before (received_of a) c.args.position c.args.command.now ms)) e c.in_ok-step.ensures.step
