-- Where a bit of a string stands: which octet, and which bit of it.
use Rattle.std.proofs.Common.{◌≡◌, ℕ, ◌+◌, ◌-◌, ◌*◌, ◌/◌, ◌%◌, ◌<◌, ◌≤◌, false, List, length, take, get_or, sym, ap, ◌∙◌, arith}
use Rattle.std.specs.List.{flat_map}
use Rattle.std.proofs.lemmas.List.{get_or-take, get_or_past, length-take-le}
use Rattle.std.proofs.lemmas.List.Concat.{get_or-flat_map}
use Rattle.ts_der.specs.BitString.{octet_bits, bits_of}
use Rattle.ts_der.proofs.BitStrings.{length-bits}
use Rattle.ts_ext.specs.NamedBits.{bit}

all-bits : (octets : List ℕ) (k j : ℕ) → k < length octets → j < 8 → get_or (flat_map octet_bits octets) (8 * k + j) false ≡ get_or (octet_bits (get_or octets k 0)) j false
all-bits octets k j lt small =
    let front : length (flat_map octet_bits (take k octets)) ≡ 8 * k = length-bits (take k octets) ∙ ap (λ (n : ℕ). 8 * n) (length-take-le k octets (omega arith)) in
    ap (λ (n : ℕ). get_or (flat_map octet_bits octets) (n + j) false) (sym front) ∙ get_or-flat_map octet_bits octets k j 0 false lt small

-- a bit that is not among the unused ones
pub bit_place : (u : ℕ) (octets : List ℕ) (n : ℕ) → u < 8 → n / 8 < length octets → n < 8 * length octets - u → bit n (bits_of u octets) ≡ get_or (octet_bits (get_or octets (n / 8) 0)) (n % 8) false
unfolding bits_of
bit_place u octets n few lt used =
    let parts : n ≡ 8 * (n / 8) + n % 8 = omega arith in
    get_or-take (8 * length octets - u) (flat_map octet_bits octets) n false used
    ∙ (ap (λ (m : ℕ). get_or (flat_map octet_bits octets) m false) parts ∙ all-bits octets (n / 8) (n % 8) lt (omega arith))

-- a bit that is left out
pub bit_past : (u : ℕ) (octets : List ℕ) (n : ℕ) → 8 * length octets - u ≤ n → bit n (bits_of u octets) ≡ false
unfolding bits_of
bit_past u octets n past =
    let short : length (take (8 * length octets - u) (flat_map octet_bits octets)) ≡ 8 * length octets - u =
    length-take-le (8 * length octets - u) (flat_map octet_bits octets) (omega (arith, length-bits octets)) in
    get_or_past (take (8 * length octets - u) (flat_map octet_bits octets)) n false (omega (arith, short))
