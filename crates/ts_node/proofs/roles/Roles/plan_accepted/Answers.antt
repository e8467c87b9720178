use Rattle.std.proofs.Common.{◌∙◌, ℕ, Option, ap}
use Rattle.ts_synod.specs.Config.{Config}
use Rattle.ts_synod.specs.Force.{log_of}
use Rattle.ts_synod.specs.Log.{LogStep as LogRule, on_accepted}
use Rattle.ts_log.specs.Log as logs
use Rattle.ts_node.specs.Machine.{store_of}
use Rattle.ts_node.specs.Roles.{config_of, volatile_of}
use Rattle.ts_node.proofs.Grown.{retold}
use Rattle.ts_node.proofs.Same.{same_log}
use Rattle.ts_node.proofs.roles.Roles.plan_accepted.Goals as goal

pub returns-clause-same : goal.returns-clause-same
returns-clause-same g c = same_log c.args.self.now c.on_accepted.new.self c.on_accepted.ensures.same

pub returns-clause-plan : goal.returns-clause-plan
returns-clause-plan g c = λ facts h.
    let roles = c.args.self.now in
    let m = g.M.Machine in
    let store = store_of g.row.M-Question.Denot m.client_id m.outcome in
    let u = same_log roles c.on_accepted.new.self c.on_accepted.ensures.same in
    let rule : Config → (ℕ → Option g.row.C.Denot) → LogRule g.row.C.Denot = λ k l. on_accepted k l (logs.received_of roles.log) c.args.from c.args.position c.args.ballot c.args.command.now in
    let e = ap (λ k. rule k (logs.learned_of roles.log)) h.log_config ∙ ap (rule (config_of roles)) h.log in
    let made = c.in_ok-plan.ensures.plan facts (rule (logs.config_of roles.log) (logs.learned_of roles.log)) (u.stand facts h) c.in_ok-step.ensures.step in
    retold (record roles { log = c.on_accepted.new.self }) c.in_ok-plan.plan store
    (config_of roles) facts (volatile_of (record roles { log = c.on_accepted.new.self }))
    (volatile_of roles) (rule (logs.config_of roles.log) (logs.learned_of roles.log))
    (rule (config_of roles) (log_of facts)) u.volatile e made
