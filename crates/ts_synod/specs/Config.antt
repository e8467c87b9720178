-- The group of nodes that run the protocol, and which of them this is. Each node is proposer,
-- acceptor and learner (Paxos Made Simple 2.5).
use Rattle.std.proofs.Common.{ℕ, Bool, nat_le, ◌&&◌}

-- the number of nodes, and this node's number
pub record Config : Type 0 where
  pub nodes : ℕ
  pub me : ℕ

-- i is one of the nodes 1 to n
abbrev pub is_node : ℕ → ℕ → Bool
is_node n i = nat_le 1 i && nat_le i n
