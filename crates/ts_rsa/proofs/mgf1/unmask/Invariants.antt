use Rattle.std.proofs.Common.{◌≡◌, ℕ, ◌*◌, ◌<◌, ◌≤◌, length, get_or, bit_xor}
use Rattle.ts_rsa.specs.Pss.{mask_octet}
use Rattle.ts_rsa.proofs.mgf1.unmask.Given as goal

abbrev pub invariant-loop-block : goal.invariant-loop-block
invariant-loop-block l =
    ((i : ℕ) → i < l.block * l.size → i < length l.fn.octets
    → get_or l.octets i 0 ≡ bit_xor (get_or l.fn.octets i 0) (mask_octet l.hash l.seed i))
    × ((i : ℕ) → l.block * l.size ≤ i → get_or l.octets i 0 ≡ get_or l.fn.octets i 0)
