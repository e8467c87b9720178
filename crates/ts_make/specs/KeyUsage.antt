-- keyUsage (RFC 5280 4.2.1.3): a set of bits by their numbers, and its BIT STRING (X.690 8.6,
-- 11.2.2).
use Rattle.std.specs.Prelude.{◌≡◌, ℕ, ◌+◌, ◌-◌, ◌*◌, ◌/◌, ◌%◌, ◌==◌, Bool, List, [], ◌∷◌, map, fold}
use Rattle.std.specs.Prelude.{max, Result, Ok, Err, if◌then◌else◌}
use Rattle.std.specs.List.{flat_map, list_any, range_with_len}
use Rattle.std.specs.declared.vec.Vec.{Vec}
use Rattle.std.specs.declared.alloc.Global.{Global}
use Rattle.ts_make.specs.declared.description.ExtensionText.{ExtensionText}
use Rattle.ts_make.specs.declared.description.ExtensionText.TheVariants as part
use Rattle.ts_make.specs.declared.fault.MakeFault.{MakeFault}
use Rattle.ts_make.specs.declared.fault.MakeFault.TheVariants.{Memory}

-- the numbers of the bits that the parts set
abbrev pub number_in : ExtensionText → List ℕ
number_in (part.KeyUsage n) = n ∷ []
number_in other = []

abbrev pub usage_numbers : List ExtensionText → List ℕ
usage_numbers texts = flat_map number_in texts

-- whether a bit is 1
abbrev pub is_set : List ℕ → ℕ → Bool
is_set numbers k = list_any (λ n. n == k) numbers

-- the number of the last bit that is 1
abbrev pub last_set : List ℕ → ℕ
last_set numbers = fold max 0 numbers

-- the bits, up to the last that is 1: no 0 follows it (X.690 11.2.2)
abbrev pub usage_bits : List ℕ → List Bool
usage_bits numbers = map (is_set numbers) (range_with_len 0 (last_set numbers + 1))

-- what a bit adds to its octet
abbrev pub weight : Bool → ℕ → ℕ
weight bit value = if bit then value else 0

-- the octet of eight bits, from one on, the most significant first (X.690 8.6.2)
unfoldable pub octet_from : List ℕ → ℕ → ℕ
octet_from numbers k =
    weight (is_set numbers k) 128 + weight (is_set numbers (k + 1)) 64
    + weight (is_set numbers (k + 2)) 32 + weight (is_set numbers (k + 3)) 16
    + weight (is_set numbers (k + 4)) 8 + weight (is_set numbers (k + 5)) 4
    + weight (is_set numbers (k + 6)) 2 + weight (is_set numbers (k + 7)) 1

-- the octets that hold them
abbrev pub usage_octets : List ℕ → List ℕ
usage_octets numbers = map (λ i. octet_from numbers (8 * i))
    (range_with_len 0 (last_set numbers / 8 + 1))

-- the content of the BIT STRING: how many bits after the last are unused, and the octets (X.690
-- 8.6.2)
unfoldable pub usage_content : List ℕ → List ℕ
usage_content numbers = (7 - last_set numbers % 8) ∷ usage_octets numbers

-- a call returned these items, or memory ran out
abbrev pub Collects : {A : Type 0} → Result (Vec A Global) MakeFault → List A → Type 0
Collects (Ok v) items = v.items ≡ items
Collects (Err e) items = e ≡ Memory
