use Rattle.std.proofs.Common.{◌∙◌}
use Rattle.ts_node.proofs.Idle.{acceptor_learns, proposer_learns}
use Rattle.ts_node.proofs.roles.Roles.keep_learn.Goals as goal

pub returns-clause-stand : goal.returns-clause-stand
returns-clause-stand g c = λ facts h.
    let log = c.args.self.now.log in
    record {
      acceptor = acceptor_learns c.args.self.now.acceptor log c.args.step.change facts c.args.step.facts.items c.requires h.acceptor;
      proposer = h.proposer ∙ proposer_learns log c.args.step.change facts c.args.step.facts.items c.requires;
      log = c.keep.ensures.state facts h.log;
      acceptor_config = h.acceptor_config;
      proposer_config = h.proposer_config;
      log_config = c.keep.ensures.config ∙ h.log_config;
      few = h.few;
    }
