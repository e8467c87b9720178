-- Addresses that are looked up among ranges, each as one number.
use Rattle.std.specs.Prelude.{◌≡◌, ℕ, ◌+◌, ◌*◌, ◌^◌, ◌<◌, ◌==◌, Bool, true, false, List, [], ◌∷◌}
use Rattle.std.specs.Prelude.{Option, Some, None, bit_and}
use Rattle.std.specs.List.{list_any}
use Rattle.ts_constraint.specs.declared.masked.MaskedRange.{MaskedRange}

-- octets as the digits of a number, behind those of another
abbrev pub number_from : ℕ → List ℕ → ℕ
number_from n [] = n
number_from n (octet ∷ rest) = number_from (n * 256 + octet) rest

-- octets as a number, the first of them the highest
abbrev pub number : List ℕ → ℕ
number octets = number_from 0 octets

-- an address has the bits of a range under its mask
abbrev pub has_bits : ℕ → MaskedRange → Bool
has_bits address range = bit_and address range.mask == range.base

abbrev pub is_in : Option MaskedRange → ℕ → Bool
is_in None address = false
is_in (Some range) address = has_bits address range

-- an address has the bits of one of the ranges
abbrev pub is_in_one : List MaskedRange → ℕ → Bool
is_in_one ranges address = list_any (has_bits address) ranges

-- the range is one of addresses of this length
abbrev pub AreBelow : ℕ → MaskedRange → Type 0
AreBelow size range = (range.base < 2 ^ (8 * size)) × (range.mask < 2 ^ (8 * size))
