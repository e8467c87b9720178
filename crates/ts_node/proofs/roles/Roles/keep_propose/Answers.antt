use Rattle.std.proofs.Common.{◌∙◌}
use Rattle.ts_node.proofs.Idle.{acceptor_used, log_used}
use Rattle.ts_node.proofs.roles.Roles.keep_propose.Goals as goal

pub returns-clause-stand : goal.returns-clause-stand
returns-clause-stand g c = λ facts h.
    record {
      acceptor = acceptor_used c.args.self.now.acceptor facts c.args.step.facts.items c.requires.used h.acceptor;
      proposer = c.keep.ensures.used facts h.proposer;
      log = h.log ∙ log_used facts c.args.step.facts.items c.requires.used;
      acceptor_config = h.acceptor_config;
      proposer_config = c.keep.ensures.config ∙ h.proposer_config;
      log_config = h.log_config;
      few = h.few;
    }
