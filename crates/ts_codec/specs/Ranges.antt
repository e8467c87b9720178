-- The ranges of the numbers that several formats have.
use Rattle.std.specs.Prelude.{◌≡◌, ◌&&◌, ◌%◌, ℕ, Bool, nat_le, nat_lt, List, length}

-- a node's number is 1 to 9
abbrev pub is_node_number : ℕ → Bool
is_node_number n = nat_le 1 n && nat_le n 9

-- a position is 1 to 1,000,000
abbrev pub is_position : ℕ → Bool
is_position n = nat_le 1 n && nat_le n 1000000

-- how many commands are known, or are looked at: at most 1,000,000
abbrev pub is_prefix : ℕ → Bool
is_prefix n = nat_le n 1000000

-- 16 times a round of at least 1, and a node in the low four bits; below 2^36
abbrev pub is_ballot : ℕ → Bool
is_ballot b = nat_le 16 b && nat_lt b 68719476736 && is_node_number (b % 16)

-- at most so many
abbrev pub is_short : {A : Type 0} → ℕ → List A → Bool
is_short most xs = nat_le (length xs) most
