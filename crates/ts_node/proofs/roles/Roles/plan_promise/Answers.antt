use Rattle.std.proofs.Common.{sym, subst}
use Rattle.ts_proposer.specs.Proposer.{config_of, state_of}
use Rattle.ts_node.specs.inside.Roles.{AllUsed}
use Rattle.ts_node.proofs.Same.{same_proposer}
use Rattle.ts_node.proofs.Used.{promise_rounds}
use Rattle.ts_node.proofs.roles.Roles.plan_promise.Goals as goal

pub returns-clause-same : goal.returns-clause-same
returns-clause-same g c = same_proposer c.args.self.now c.on_promise.new.self c.on_promise.ensures.same

pub returns-clause-latest : goal.returns-clause-latest
returns-clause-latest g c =
    let a = c.args.self.now.proposer in
    (c.in_ok-step.ensures.latest, subst AllUsed (sym c.in_ok-step.ensures.step.facts) (promise_rounds (config_of a) (state_of a) c.args.from c.args.position c.args.ballot c.in_ok-taken.taken))
