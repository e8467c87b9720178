-- What is at the front of a stream of records.
use Rattle.std.specs.Prelude.{◌≡◌, ◌≢◌, ◌⊎◌, ◌≤◌, ◌<◌, ◌^◌, ℕ, List, ◌++◌, length, Option}
use Rattle.std.specs.Prelude.{Some, None}
use Rattle.std.specs.List.{AllByRecursion}
use Rattle.std.specs.Int.{to_be_bytes, w32}
use Rattle.ts_guard.specs.Sealed.{IsContent, record_of, stream, tag}
use Rattle.ts_guard.specs.declared.fault.GuardFault.{GuardFault}
use Rattle.ts_guard.specs.declared.fault.GuardFault.TheVariants.{Length, Version, Tag}

-- what follows the four octets of a length: a version, a tag and a content
abbrev pub IsLength : ℕ → Type 0
IsLength n = (34 ≤ n) × (n ≤ 65569)

-- less than a whole record: fewer than four octets, or fewer than their length says
abbrev pub IsPartial : List ℕ → Type 0
IsPartial octets = (length octets < 4)
    ⊎ ((n : ℕ) × (body : List ℕ) × IsLength n × (octets ≡ to_be_bytes w32 n ++ body)
    × (length body < n))

-- octets begin with a whole record of this version, with these 32 octets in the tag's place
pub record Begins (octets : List ℕ) (version : ℕ) (given content : List ℕ) : Type 0 where
  pub after : List ℕ
  pub fits : IsContent content
  pub long : length given ≡ 32
  pub is : octets ≡ record_of version given content ++ after

-- What is wrong in the place of the record of this number: a length out of range, as soon as its
-- octets are there; then, with the record
-- whole, another version; then another tag than the one of this number and this content.
abbrev pub IsWrong : List ℕ → List ℕ → ℕ → GuardFault → List ℕ → Type 0
IsWrong key context number Length octets = (n : ℕ) × (after : List ℕ) × (n < 2 ^ 32)
    × (n < 34 ⊎ 65569 < n) × (octets ≡ to_be_bytes w32 n ++ after)
IsWrong key context number Version octets = (version : ℕ) × (given content : List ℕ)
    × Begins octets version given content × (version ≢ 3)
IsWrong key context number Tag octets = (given content : List ℕ) × Begins octets 3 given content
    × (given ≢ tag key context number content)
IsWrong key context number other octets = ⊥

-- less than a whole record, or what is wrong
abbrev pub Ends : List ℕ → List ℕ → ℕ → Option GuardFault → List ℕ → Type 0
Ends key context number None octets = IsPartial octets
Ends key context number (Some fault) octets = IsWrong key context number fault octets

-- a stream is the records of these contents, from the number 0 on, up to less than a whole record
-- or to what is wrong
pub record Splits (key context stream_octets : List ℕ) (contents : List (List ℕ))
    (fault : Option GuardFault) : Type 0 where
  pub rest : List ℕ
  pub is : stream_octets ≡ stream key context 0 contents ++ rest
  pub each : AllByRecursion IsContent contents
  pub ends : Ends key context (length contents) fault rest
