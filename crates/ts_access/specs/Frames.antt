-- The front of a stream of frames. A frame is the length of what follows it in four octets, and so
-- many octets.
use Rattle.std.specs.Prelude.{◌≡◌, ◌⊎◌, ◌≤◌, ◌<◌, ◌+◌, ◌^◌, ℕ, List, length, take, true, false}
use Rattle.std.specs.Int.{to_be_bytes, w32}
use Rattle.ts_access.specs.Roles.{may}
use Rattle.ts_access.specs.declared.key.Role.{Role}

-- what follows the length: 2 to 8,388,608 octets
abbrev pub IsLength : ℕ → Type 0
IsLength n = (2 ≤ n) × (n ≤ 8388608)

-- octets begin with the length of so many
abbrev pub Says : List ℕ → ℕ → Type 0
Says octets n = (n < 2 ^ 32) × (4 ≤ length octets) × (take 4 octets ≡ to_be_bytes w32 n)

-- at the front is a frame of this length, and of it all octets are there, or the first eight, which
-- say whether it may be asked
pub record Heads (octets : List ℕ) (n : ℕ) : Type 0 where
  pub fits : IsLength n
  pub says : Says octets n
  pub enough : (4 + n ≤ length octets) ⊎ (8 ≤ length octets)

-- too few octets for that
abbrev pub IsShort : List ℕ → Type 0
IsShort octets = (length octets < 4)
    ⊎ ((n : ℕ) × IsLength n × Says octets n × (length octets < 4 + n) × (length octets < 8))

-- a length that no frame has
abbrev pub IsFaulty : List ℕ → Type 0
IsFaulty octets = (n : ℕ) × Says octets n × (n < 2 ⊎ 8388608 < n)

-- a whole frame that the role may ask of the node
pub record IsAllowed (role : Role) (node : ℕ) (frame : List ℕ) : Type 0 where
  pub n : ℕ
  pub fits : IsLength n
  pub says : Says frame n
  pub whole : length frame ≡ 4 + n
  pub allowed : may role node frame ≡ true

-- eight octets or more of such a frame, of which so many are left
pub record IsPart (role : Role) (node : ℕ) (part : List ℕ) (left : ℕ) : Type 0 where
  pub n : ℕ
  pub fits : IsLength n
  pub says : Says part n
  pub head : 8 ≤ length part
  pub more : 1 ≤ left
  pub whole : length part + left ≡ 4 + n
  pub allowed : may role node part ≡ true

-- at the front is a frame that the role may not ask of the node
abbrev pub IsForbidden : Role → ℕ → List ℕ → Type 0
IsForbidden role node octets = (n : ℕ) × Heads octets n
    × (may role node (take (4 + n) octets) ≡ false)
