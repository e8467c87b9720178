use Rattle.std.proofs.Common.{◌≡◌, ◌==◌, ◌&&◌, Bool, false, if◌then◌else◌, sym, subst}
use Rattle.ts_synod.specs.Config.{is_node}
use Rattle.ts_synod.specs.Node.{no_effect, on_body}
use Rattle.ts_node.specs.Machine.{store_of}
use Rattle.ts_node.specs.Roles.{config_of, volatile_of}
use Rattle.ts_node.specs.inside.Roles.{Makes}
use Rattle.ts_node.proofs.Deliveries.{misses_high, misses_low, misses_me, reaches}
use Rattle.ts_node.proofs.roles.Roles.plan_message.Goals as goal
use Rattle.ts_node.proofs.roles.Roles.plan_message.Goals.{else-message-self-via-then-message-self+then-message-ge1+else-message-self-2}
use Rattle.ts_node.proofs.roles.Roles.plan_message.Goals.{else-message-self-via-then-message-self+else-message-ge1}
use Rattle.ts_node.proofs.roles.Roles.plan_message.Goals.{else-message-self-via-else-message-self}

pub returns-then-message-self-2-clause-plan : goal.returns-then-message-self-2-clause-plan
returns-then-message-self-2-clause-plan g c = λ facts h.
    let roles = c.args.self.now in
    let m = g.M.Machine in
    let message = c.args.message.now in
    let here = reaches message.to roles.me message.from roles.nodes c.if-message-self.true c.if-message-ge1.true c.if-message-self-2.true in
    subst (λ (b : Bool). Makes c.plan_body.new.self c.in_ok-plan.plan
    (if b then on_body (store_of g.row.M-Question.Denot m.client_id m.outcome)
    (config_of roles) facts (volatile_of roles) message.from message.body else no_effect
    (volatile_of roles))) (sym here) (c.in_ok-plan.ensures.plan facts h)

pub returns-clause-plan : goal.returns-clause-plan
returns-clause-plan g c = λ facts h.
    let roles = c.args.self.now in
    let m = g.M.Machine in
    let message = c.args.message.now in
    let here : ((message.to == roles.me) && is_node roles.nodes message.from) ≡ false = elim c.else-message-self.branch [
      | else-message-self-via-then-message-self+then-message-ge1+else-message-self-2 w ↦ misses_high message.to roles.me message.from roles.nodes w.if-message-self-2.false
      | else-message-self-via-then-message-self+else-message-ge1 w ↦ misses_low message.to roles.me message.from roles.nodes w.if-message-ge1.false
      | else-message-self-via-else-message-self w ↦ misses_me message.to roles.me message.from roles.nodes w.if-message-self.false
    ] in
    subst (λ (b : Bool). Makes roles c.plan_nothing.result
    (if b then on_body (store_of g.row.M-Question.Denot m.client_id m.outcome)
    (config_of roles) facts (volatile_of roles) message.from message.body else no_effect
    (volatile_of roles))) (sym here) c.plan_nothing.ensures.plan
