-- The three roles of a node (Paxos Made Simple 2.5), and the part of the world's node that they
-- stand for.
use Rattle.std.proofs.Common.{◌≡◌, ◌≤◌, List}
use Rattle.ts_synod.specs.declared.message.Fact.{Fact}
use Rattle.ts_synod.specs.Config.{Config}
use Rattle.ts_synod.specs.Node.{Volatile}
use Rattle.ts_acceptor.specs.Acceptor as acceptors
use Rattle.ts_proposer.specs.Proposer as proposers
use Rattle.ts_log.specs.Log as logs
use Rattle.ts_node.specs.declared.roles.Roles.{Roles}

-- the number of nodes, and this node's number
abbrev pub config_of : {C : Type 0} → Roles C → Config
config_of roles = record { nodes = roles.nodes; me = roles.me }

-- what a restart forgets
abbrev pub volatile_of : {C : Type 0} → Roles C → Volatile C
volatile_of roles = record {
  proposer = proposers.state_of roles.proposer;
  received = logs.received_of roles.log;
}

-- the roles are those of one node, which has kept these facts
pub record StandFor {C : Type 0} (roles : Roles C) (facts : List (Fact C)) : Type 0 where
  pub acceptor : acceptors.StandsFor roles.acceptor facts
  pub proposer : proposers.StandsFor roles.proposer facts
  pub log : logs.StandsFor roles.log facts
  pub acceptor_config : acceptors.config_of roles.acceptor ≡ config_of roles
  pub proposer_config : proposers.config_of roles.proposer ≡ config_of roles
  pub log_config : logs.config_of roles.log ≡ config_of roles
  pub few : roles.nodes ≤ 9
