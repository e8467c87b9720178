use Rattle.std.proofs.Common.{◌∙◌}
use Rattle.ts_node.proofs.Idle.{log_accepts, proposer_accepts}
use Rattle.ts_node.proofs.roles.Roles.keep_accept.Goals as goal

pub returns-clause-stand : goal.returns-clause-stand
returns-clause-stand g c = λ facts h.
    let a = c.args.self.now.acceptor in
    record {
      acceptor = c.keep.ensures.state facts h.acceptor;
      proposer = h.proposer ∙ proposer_accepts a c.args.step.change facts c.args.step.facts.items c.requires;
      log = h.log ∙ log_accepts a c.args.step.change facts c.args.step.facts.items c.requires;
      acceptor_config = c.keep.ensures.config ∙ h.acceptor_config;
      proposer_config = h.proposer_config;
      log_config = h.log_config;
      few = h.few;
    }
