-- What the octets of a part are: numbers are big endian, and octets of their own length follow it.
use Rattle.std.specs.Prelude.{ℕ, ◌+◌, ◌*◌, Bool, List, [], ◌∷◌, ◌++◌, length, Option, Some, None}
use Rattle.std.specs.Prelude.{if◌then◌else◌}
use Rattle.std.specs.Int.{to_be_bytes, w16, w32}

-- an octet of length, and that many octets
abbrev pub blob8 : List ℕ → List ℕ
blob8 octets = length octets ∷ octets

-- two octets of length, and that many octets
abbrev pub blob16 : List ℕ → List ℕ
blob16 octets = to_be_bytes w16 (length octets) ++ octets

-- four octets of length, and that many octets
abbrev pub blob32 : List ℕ → List ℕ
blob32 octets = to_be_bytes w32 (length octets) ++ octets

-- nothing where there is none
abbrev pub optional : {A : Type 0} → (A → List ℕ) → Option A → List ℕ
optional encode None = []
optional encode (Some x) = encode x

-- the number of these bits, bit 0 first
abbrev pub bits : List Bool → ℕ
bits [] = 0
bits (b ∷ bs) = (if b then 1 else 0) + 2 * bits bs
