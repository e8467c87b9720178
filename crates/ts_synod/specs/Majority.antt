-- Majorities (Paxos Made Simple 2.1, 2.2): a set of nodes is a test of node numbers, and any two
-- majorities share a node.
use Rattle.std.proofs.Common.{ℕ, zero, suc, Bool, nat_lt, ◌+◌, ◌/◌, ◌≤◌, if◌then◌else◌}

-- how many of the nodes 1 to n are in the set
abbrev pub count : (ℕ → Bool) → ℕ → ℕ
count q zero = 0
count q (suc n) = if q (suc n) then suc (count q n) else count q n

-- more than half of the nodes 1 to n are in the set (2.2)
abbrev pub IsMajority : ℕ → (ℕ → Bool) → Type 0
IsMajority n q = n / 2 + 1 ≤ count q n

-- the same as a test
abbrev pub is_majority : ℕ → (ℕ → Bool) → Bool
is_majority n q = nat_lt (n / 2) (count q n)
