-- The first octets in each direction: the server's challenge, and the client's greeting.
use Rattle.std.specs.Prelude.{◌≡◌, ◌≢◌, ◌⊎◌, ◌<◌, ◌+◌, ◌^◌, ℕ, List, ◌∷◌, ◌++◌, length}
use Rattle.std.specs.Int.{to_be_bytes, w32}
use Rattle.ts_guard.specs.declared.fault.HelloFault.{HelloFault}
use Rattle.ts_guard.specs.declared.fault.HelloFault.TheVariants.{Version, Length, Kind}

-- the length 34, the version 3, the kind 40, and 32 octets that are new for each connection
abbrev pub challenge_octets : List ℕ → List ℕ
challenge_octets challenge = to_be_bytes w32 34 ++ 3 ∷ 0x40 ∷ challenge

-- the length 38, the version 3, the kind 41, the number of a key, and 32 octets that are new for
-- each connection
abbrev pub greeting_octets : ℕ → List ℕ → List ℕ
greeting_octets key_id nonce = to_be_bytes w32 38 ++ 3 ∷ 0x41 ∷ (to_be_bytes w32 key_id ++ nonce)

-- octets begin with a length, a version and a kind
pub record HasHead (octets : List ℕ) (size version kind : ℕ) : Type 0 where
  pub after : List ℕ
  pub small : size < 2 ^ 32
  pub is : octets ≡ to_be_bytes w32 size ++ version ∷ kind ∷ after

-- less than a whole hello of this length and kind
abbrev pub IsPartHello : ℕ → ℕ → List ℕ → Type 0
IsPartHello size kind octets = (length octets < 6)
    ⊎ (HasHead octets size 3 kind × (length octets < 4 + size))

-- what is wrong in the place of a hello of this length and kind, once six octets are there: first
-- another version, then another length, then
-- another kind
abbrev pub IsHelloFault : ℕ → ℕ → List ℕ → HelloFault → Type 0
IsHelloFault size kind octets Version = (n version found : ℕ) × HasHead octets n version found
    × (version ≢ 3)
IsHelloFault size kind octets Length = (n found : ℕ) × HasHead octets n 3 found × (n ≢ size)
IsHelloFault size kind octets Kind = (found : ℕ) × HasHead octets size 3 found × (found ≢ kind)
