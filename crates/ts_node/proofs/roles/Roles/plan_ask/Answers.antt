use Rattle.std.proofs.Common.{◌∙◌, refl, ap}
use Rattle.ts_synod.specs.Log.{on_ask}
use Rattle.ts_log.specs.Log as logs
use Rattle.ts_node.specs.Roles.{config_of}
use Rattle.ts_node.proofs.roles.Roles.plan_ask.Goals as goal

pub returns-clause-plan : goal.returns-clause-plan
returns-clause-plan g c = λ facts h.
    let roles = c.args.self.now in
    record {
      facts = refl;
      messages = ap (λ v. v.items) c.replace-messages.ensures.value
          ∙ c.in_ok-step.ensures.step.messages
          ∙ ap (λ k. on_ask k (logs.learned_of roles.log) c.args.from c.args.position) h.log_config
          ∙ ap (λ f. on_ask (config_of roles) f c.args.from c.args.position) h.log;
      volatile = refl;
    }
