-- A role that is not changed leaves the roles unchanged.
use Rattle.std.proofs.Common.{◌∙◌, refl, ap}
use Rattle.ts_synod.specs.Node.{Volatile}
use Rattle.ts_acceptor.specs.Acceptor as acceptors
use Rattle.ts_acceptor.specs.declared.acceptor.Acceptor.{Acceptor}
use Rattle.ts_proposer.specs.Proposer as proposers
use Rattle.ts_proposer.specs.declared.proposer.Proposer.{Proposer}
use Rattle.ts_log.specs.Log as logs
use Rattle.ts_log.specs.declared.log.Log.{Log}
use Rattle.ts_node.specs.declared.roles.Roles.{Roles}
use Rattle.ts_node.specs.inside.Roles.{AreUnchanged}

pub same_acceptor : {C : Type 0} (roles : Roles C) (a : Acceptor C) → acceptors.IsUnchanged roles.acceptor a → AreUnchanged roles (record roles { acceptor = a })
same_acceptor roles a u = record {
  config = refl;
  volatile = refl;
  stand = λ facts h. record {
    acceptor = record { promised = λ p. u.promised p ∙ h.acceptor.promised p; taken = λ p. u.taken p ∙ h.acceptor.taken p };
    proposer = h.proposer;
    log = h.log;
    acceptor_config = u.config ∙ h.acceptor_config;
    proposer_config = h.proposer_config;
    log_config = h.log_config;
    few = h.few;
  };
  learned = refl;
}

pub same_proposer : {C : Type 0} (roles : Roles C) (p : Proposer C) → proposers.IsUnchanged roles.proposer p → AreUnchanged roles (record roles { proposer = p })
same_proposer {C} roles p u = record {
  config = refl;
  volatile = ap (λ s. let v : Volatile C = record { proposer = s; received = logs.received_of roles.log } in v) u.state;
  stand = λ facts h. record {
    acceptor = h.acceptor;
    proposer = u.used ∙ h.proposer;
    log = h.log;
    acceptor_config = h.acceptor_config;
    proposer_config = u.config ∙ h.proposer_config;
    log_config = h.log_config;
    few = h.few;
  };
  learned = refl;
}

pub same_log : {C : Type 0} (roles : Roles C) (l : Log C) → logs.IsUnchanged roles.log l → AreUnchanged roles (record roles { log = l })
same_log {C} roles l u = record {
  config = refl;
  volatile = ap (λ r. let v : Volatile C = record { proposer = proposers.state_of roles.proposer; received = r } in v) u.received;
  stand = λ facts h. record {
    acceptor = h.acceptor;
    proposer = h.proposer;
    log = u.learned ∙ h.log;
    acceptor_config = h.acceptor_config;
    proposer_config = h.proposer_config;
    log_config = u.config ∙ h.log_config;
    few = h.few;
  };
  learned = u.learned;
}
