-- Ballots, the proposal numbers of Paxos Made Simple 2.2. Different nodes choose theirs from
-- disjoint sets of numbers (2.5).
use Rattle.std.proofs.Common.{ℕ, ◌+◌, ◌*◌, ◌/◌, ◌%◌}

-- the ballot of a node's round: no two nodes share one, and a later round has a greater one (2.5)
abbrev pub ballot : ℕ → ℕ → ℕ
ballot node round = 16 * round + node

-- the round of a ballot
abbrev pub round_of : ℕ → ℕ
round_of ballot = ballot / 16

-- the node of a ballot
abbrev pub node_of : ℕ → ℕ
node_of ballot = ballot % 16

-- the greatest round that a node can use
abbrev pub last_round : ℕ
last_round = 4294967295
