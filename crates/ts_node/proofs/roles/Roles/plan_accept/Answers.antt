use Rattle.ts_node.proofs.Same.{same_acceptor}
use Rattle.ts_node.proofs.roles.Roles.plan_accept.Goals as goal

pub returns-clause-same : goal.returns-clause-same
returns-clause-same g c = same_acceptor c.args.self.now c.on_accept.new.self c.on_accept.ensures.same
