-- What tables of ranges have to say of addresses.
use Rattle.std.specs.Prelude.{◌≡◌, ◌↔◌, ℕ, IsTrue, List, length, map}
use Rattle.ts_der.specs.Octets.{AreOctets}
use Rattle.ts_name.specs.General.{GeneralName, iPAddress}
use Rattle.ts_name.specs.Holds.{Holds}
use Rattle.ts_constraint.specs.declared.masked.MaskedRange.{MaskedRange}
use Rattle.ts_constraint.specs.declared.ranges.Ranges.{Ranges}
use Rattle.ts_constraint.specs.Conditions.{Some_of}
use Rattle.ts_constraint.specs.inside.Ranges.{is_in_one, number}
use Rattle.ts_constraint.specs.inside.Quads.{as_masked}
use Rattle.ts_constraint.specs.View.{bases_in}

-- an address lies in one of these bases
abbrev pub LiesIn : List ℕ → List GeneralName → Type 0
LiesIn address bases = Some_of (λ base. Holds base (iPAddress address)) bases

-- an address of this length has the bits of one of these ranges exactly where it lies in one of the
-- bases
abbrev pub AreRangesOf : ℕ → List MaskedRange → List GeneralName → Type 0
AreRangesOf size ranges bases = (address : List ℕ) → AreOctets address → length address ≡ size
    → IsTrue (is_in_one ranges (number address)) ↔ LiesIn address bases

-- the address of neither version of IP
abbrev pub IsOtherLength : List ℕ → Type 0
IsOtherLength address = (length address ≡ 4 → ⊥) × (length address ≡ 16 → ⊥)

-- these bases are enough for such addresses
abbrev pub AreOtherRanges : List GeneralName → List GeneralName → Type 0
AreOtherRanges some bases = (address : List ℕ) → IsOtherLength address
    → LiesIn address some ↔ LiesIn address bases

pub record AreRanges (ranges : Ranges) (bases : List GeneralName) : Type 0 where
  pub short_are : AreRangesOf 4 (map as_masked ranges.short.items) bases
  pub long_are : AreRangesOf 16 ranges.long.items bases
  pub others_are : AreOtherRanges (bases_in ranges.others.items) bases
