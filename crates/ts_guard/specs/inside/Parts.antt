-- What is known of a record before its tag is looked at.
use Rattle.std.specs.Prelude.{◌≡◌, ◌≤◌, ◌+◌, ◌⊎◌, ℕ, List, ◌++◌, length, drop, slice_index}
use Rattle.std.specs.Int.{to_be_bytes, w32}
use Rattle.ts_guard.specs.Reading.{IsWrong}
use Rattle.ts_guard.specs.declared.fault.GuardFault.{GuardFault}
use Rattle.ts_guard.specs.declared.fault.GuardFault.TheVariants.{Length, Version}

-- octets begin with a whole record of version 3 with so much content
pub record IsWhole (octets : List ℕ) (n : ℕ) : Type 0 where
  pub some : 1 ≤ n
  pub few : n ≤ 65536
  pub enough : 37 + n ≤ length octets
  pub is : octets ≡ to_be_bytes w32 (33 + n) ++ drop 4 octets
  pub version : slice_index octets 4 ≡ 3

-- the length or the version is wrong, whatever the tag has to be
abbrev pub IsWrongHead : List ℕ → GuardFault → Type 0
IsWrongHead octets fault = ((fault ≡ Length) ⊎ (fault ≡ Version))
    × ((key context : List ℕ) (number : ℕ) → IsWrong key context number fault octets)
