use Rattle.std.proofs.Common.{sym, subst}
use Rattle.ts_synod.specs.Node.{on_body}
use Rattle.ts_node.specs.Machine.{store_of}
use Rattle.ts_node.specs.Roles.{config_of, volatile_of}
use Rattle.ts_node.specs.inside.Roles.{Makes}
use Rattle.ts_node.proofs.roles.Roles.plan_body.Goals as goal

pub returns-in_ok-plan-in-Prepare-clause-plan : goal.returns-in_ok-plan-in-Prepare-clause-plan
returns-in_ok-plan-in-Prepare-clause-plan g c = λ facts h.
    let roles = c.args.self.now in
    let m = g.M.Machine in
    subst (λ b. Makes c.plan_prepare.new.self c.in_ok-plan-in-Prepare.plan
    (on_body (store_of g.row.M-Question.Denot m.client_id m.outcome) (config_of roles) facts
    (volatile_of roles) c.args.from b)) (sym c.in-Prepare.is)
    (c.in_ok-plan-in-Prepare.ensures.plan facts h)

pub returns-in_ok-plan-in-Accept-clause-plan : goal.returns-in_ok-plan-in-Accept-clause-plan
returns-in_ok-plan-in-Accept-clause-plan g c = λ facts h.
    let roles = c.args.self.now in
    let m = g.M.Machine in
    subst (λ b. Makes c.plan_accept.new.self c.in_ok-plan-in-Accept.plan
    (on_body (store_of g.row.M-Question.Denot m.client_id m.outcome) (config_of roles) facts
    (volatile_of roles) c.args.from b)) (sym c.in-Accept.is)
    (c.in_ok-plan-in-Accept.ensures.plan facts h)

pub returns-in_ok-plan-in-Accepted-clause-plan : goal.returns-in_ok-plan-in-Accepted-clause-plan
returns-in_ok-plan-in-Accepted-clause-plan g c = λ facts h.
    let roles = c.args.self.now in
    let m = g.M.Machine in
    subst (λ b. Makes c.plan_accepted.new.self c.in_ok-plan-in-Accepted.plan
    (on_body (store_of g.row.M-Question.Denot m.client_id m.outcome) (config_of roles) facts
    (volatile_of roles) c.args.from b)) (sym c.in-Accepted.is)
    (c.in_ok-plan-in-Accepted.ensures.plan facts h)

pub returns-in_ok-plan-in-Ask-clause-plan : goal.returns-in_ok-plan-in-Ask-clause-plan
returns-in_ok-plan-in-Ask-clause-plan g c = λ facts h.
    let roles = c.args.self.now in
    let m = g.M.Machine in
    subst (λ b. Makes c.args.self.now c.in_ok-plan-in-Ask.plan
    (on_body (store_of g.row.M-Question.Denot m.client_id m.outcome) (config_of roles) facts
    (volatile_of roles) c.args.from b)) (sym c.in-Ask.is) (c.in_ok-plan-in-Ask.ensures.plan facts h)

pub returns-in_ok-plan-in-Give-clause-plan : goal.returns-in_ok-plan-in-Give-clause-plan
returns-in_ok-plan-in-Give-clause-plan g c = λ facts h.
    let roles = c.args.self.now in
    let m = g.M.Machine in
    subst (λ b. Makes c.plan_give.new.self c.in_ok-plan-in-Give.plan
    (on_body (store_of g.row.M-Question.Denot m.client_id m.outcome) (config_of roles) facts
    (volatile_of roles) c.args.from b)) (sym c.in-Give.is)
    (c.in_ok-plan-in-Give.ensures.plan facts h)
