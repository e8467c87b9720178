use Rattle.std.proofs.Common.{◌∙◌, Ok, List, ap, length, subst}
use Rattle.ts_synod.specs.Laws.{node_with}
use Rattle.ts_synod.specs.Log.{prefix}
use Rattle.ts_synod.specs.Node.{Step, on_question, outcome_reply}
use Rattle.ts_synod.specs.Store.{settling}
use Rattle.ts_node.specs.declared.input.Reply.TheVariants as replies
use Rattle.ts_node.specs.Inputs.{IsInput, SaysReply, Submits}
use Rattle.ts_node.specs.Machine.{store_of}
use Rattle.ts_node.specs.Roles.{config_of, volatile_of}
use Rattle.ts_node.proofs.Deliveries.{ask_is, catch_up_is, deliver_is, outcome_is, status_is, submit_is}
use Rattle.ts_node.proofs.roles.Roles.plan_input.Goals as goal

pub returns-in_ok-plan-in-Deliver-clause-step : goal.returns-in_ok-plan-in-Deliver-clause-step
returns-in_ok-plan-in-Deliver-clause-step g c = λ facts sent event h is.
    let roles = c.args.self.now in
    let m = g.M.Machine in
    let store = store_of g.row.M-Question.Denot m.client_id m.outcome in
    let is_answer = m.is_answer (m.basis c.args.machine.now) in
    subst (λ (s : Step g.row.C.Denot g.row.M-Outcome.Denot g.row.M-Question.Denot (List g.row.C.Denot)). Submits is_answer c.plan_message.new.self (Ok (c.in_ok-plan-in-Deliver.plan, replies.Done)) s)
    (deliver_is store (config_of roles) (node_with facts (volatile_of roles)) sent
    c.in-Deliver.message event (subst (λ i. IsInput sent i event) c.in-Deliver.is is))
    (c.in_ok-plan-in-Deliver.ensures.plan facts h, tt)

pub returns-in_ok-step-in-Submit-clause-step : goal.returns-in_ok-step-in-Submit-clause-step
returns-in_ok-step-in-Submit-clause-step g c = λ facts sent event h is.
    let roles = c.args.self.now in
    let m = g.M.Machine in
    let store = store_of g.row.M-Question.Denot m.client_id m.outcome in
    let is_answer = m.is_answer (m.basis c.args.machine.now) in
    subst (λ (s : Step g.row.C.Denot g.row.M-Outcome.Denot g.row.M-Question.Denot (List g.row.C.Denot)). Submits is_answer roles (Ok c.in_ok-step-in-Submit.step) s)
    (submit_is store (config_of roles) (node_with facts (volatile_of roles)) sent
    c.in-Submit.command event (subst (λ i. IsInput sent i event) c.in-Submit.is is))
    (c.in_ok-step-in-Submit.ensures.step facts h)

pub returns-in_ok-reply-in-Ask-clause-step : goal.returns-in_ok-reply-in-Ask-clause-step
returns-in_ok-reply-in-Ask-clause-step g c = λ facts sent event h is.
    let roles = c.args.self.now in
    let m = g.M.Machine in
    let store = store_of g.row.M-Question.Denot m.client_id m.outcome in
    let is_answer = m.is_answer (m.basis c.args.machine.now) in
    subst (λ (s : Step g.row.C.Denot g.row.M-Outcome.Denot g.row.M-Question.Denot (List g.row.C.Denot)). Submits is_answer roles (Ok (c.plan_nothing.result, c.in_ok-reply-in-Ask.reply)) s)
    (ask_is store (config_of roles) (node_with facts (volatile_of roles)) sent c.in-Ask.k
    c.in-Ask.question event (subst (λ i. IsInput sent i event) c.in-Ask.is is)) (
      c.plan_nothing.ensures.plan,
      subst
          (λ f. SaysReply is_answer c.in_ok-reply-in-Ask.reply
          (on_question store (prefix f) c.in-Ask.k c.in-Ask.question)) h.log
          c.in_ok-reply-in-Ask.ensures.reply,
    )

pub returns-in_ok-reply-in-Outcome-clause-step : goal.returns-in_ok-reply-in-Outcome-clause-step
returns-in_ok-reply-in-Outcome-clause-step g c = λ facts sent event h is.
    let roles = c.args.self.now in
    let m = g.M.Machine in
    let store = store_of g.row.M-Question.Denot m.client_id m.outcome in
    let is_answer = m.is_answer (m.basis c.args.machine.now) in
    subst (λ (s : Step g.row.C.Denot g.row.M-Outcome.Denot g.row.M-Question.Denot
    (List g.row.C.Denot)). Submits is_answer roles
    (Ok (c.plan_nothing-in-Outcome.result, c.in_ok-reply-in-Outcome.reply)) s)
    (outcome_is store (config_of roles) (node_with facts (volatile_of roles)) sent c.in-Outcome.id
    event (subst (λ i. IsInput sent i event) c.in-Outcome.is is)) (
      c.plan_nothing-in-Outcome.ensures.plan,
      subst
          (λ f. SaysReply is_answer c.in_ok-reply-in-Outcome.reply
          (outcome_reply store c.in-Outcome.id (settling store (prefix f) c.in-Outcome.id))) h.log
          c.in_ok-reply-in-Outcome.ensures.reply,
    )

pub returns-in_ok-plan-in-CatchUp-clause-step : goal.returns-in_ok-plan-in-CatchUp-clause-step
returns-in_ok-plan-in-CatchUp-clause-step g c = λ facts sent event h is.
    let roles = c.args.self.now in
    let m = g.M.Machine in
    let store = store_of g.row.M-Question.Denot m.client_id m.outcome in
    let is_answer = m.is_answer (m.basis c.args.machine.now) in
    subst (λ (s : Step g.row.C.Denot g.row.M-Outcome.Denot g.row.M-Question.Denot (List g.row.C.Denot)). Submits is_answer roles (Ok (c.in_ok-plan-in-CatchUp.plan, replies.Done)) s)
    (catch_up_is store (config_of roles) (node_with facts (volatile_of roles)) sent event (subst (λ i. IsInput sent i event) c.in-CatchUp.is is)) (c.in_ok-plan-in-CatchUp.ensures.plan facts h, tt)

pub returns-in-Status-clause-step : goal.returns-in-Status-clause-step
returns-in-Status-clause-step g c = λ facts sent event h is.
    let roles = c.args.self.now in
    let m = g.M.Machine in
    let store = store_of g.row.M-Question.Denot m.client_id m.outcome in
    let is_answer = m.is_answer (m.basis c.args.machine.now) in
    subst (λ (s : Step g.row.C.Denot g.row.M-Outcome.Denot g.row.M-Question.Denot
    (List g.row.C.Denot)). Submits is_answer roles
    (Ok (c.plan_nothing-in-Status.result, replies.Prefix c.prefix.result)) s)
    (status_is store (config_of roles) (node_with facts (volatile_of roles)) sent event
    (subst (λ i. IsInput sent i event) c.in-Status.is is))
    (c.plan_nothing-in-Status.ensures.plan, c.prefix.ensures ∙ ap (λ f. length (prefix f)) h.log)
