use Rattle.std.proofs.Common.{◌≡◌, ℕ, ◌+◌, ◌<◌, ◌≤◌, get_or, bit_xor}
use Rattle.ts_rsa.proofs.mgf1.xor_block.Given as goal

abbrev pub invariant-loop-j : goal.invariant-loop-j
invariant-loop-j l =
    ((j : ℕ) → j < l.j
    → get_or l.octets (l.at + j) 0
    ≡ bit_xor (get_or l.fn.octets (l.at + j) 0) (get_or l.block j 0))
    × ((i : ℕ) → i < l.at → get_or l.octets i 0 ≡ get_or l.fn.octets i 0)
    × ((i : ℕ) → l.at + l.j ≤ i → get_or l.octets i 0 ≡ get_or l.fn.octets i 0)
