-- What an image holds from its first gate on: blocks whose bodies are facts, and then a closed
-- gate, or something that can't be read.
use Rattle.std.specs.Prelude.{◌≡◌, ◌≢◌, ◌⊎◌, ◌≤◌, ◌<◌, ◌+◌, ℕ, List, [], ◌∷◌, ◌++◌, length, take}
use Rattle.std.specs.Prelude.{drop}
use Rattle.std.specs.List.{flat_map, AllByRecursion}
use Rattle.std.specs.Int.{to_be_bytes, w32}
use Rattle.ts_journal.specs.Images.{Block, block, bodies_in}
use Rattle.ts_record.specs.declared.layout.Layout.{Layout}
use Rattle.ts_synod.specs.declared.message.Fact.{Fact}
use Rattle.ts_record.specs.Facts.{AreFacts, AllFit, encodings}

-- the first gate is at 25, after a live gate, and a body has at most 4,194,500 octets
abbrev pub version_2 : Layout
version_2 = record { first_gate = 25; longest_body = 4194500 }

-- the first gate is at 16, and a body has at most 1,048,700 octets
abbrev pub version_1 : Layout
version_1 = record { first_gate = 16; longest_body = 1048700 }

-- a length that a body may have
pub record IsLength (layout : Layout) (n : ℕ) : Type 0 where
  pub from : 1 ≤ n
  pub to : n ≤ layout.longest_body

-- an open gate, and a body of a length that it may have
abbrev pub IsBlock : Layout → Block → Type 0
IsBlock layout b = (b.gate ≢ 0) × IsLength layout (length b.body)

-- up to this offset whole blocks of these facts stand
pub record ReadTo {C : Type 0} (octets : C → List ℕ) (layout : Layout) (image : List ℕ)
    (facts : List (Fact C)) (at : ℕ) : Type 0 where
  pub blocks : List Block
  pub whole : AllByRecursion (IsBlock layout) blocks
  pub are : AreFacts octets (bodies_in blocks) facts
  pub within : at ≤ length image
  pub split : drop layout.first_gate image ≡ flat_map block blocks ++ drop at image
  pub ends : at ≡ layout.first_gate + length (flat_map block blocks)

-- a closed gate ends them at this offset
abbrev pub IsRead : {C : Type 0} → (C → List ℕ) → Layout → List ℕ → List (Fact C) → ℕ → Type 0
IsRead octets layout image facts end =
    ReadTo octets layout image facts end × (drop end image ≡ 0 ∷ drop (end + 1) image)

-- Whole blocks of these facts stand from the first gate on, and then a closed gate. What follows it
-- has no meaning.
pub record HoldsFacts {C : Type 0} (octets : C → List ℕ) (layout : Layout) (facts : List (Fact C))
    (image : List ℕ) : Type 0 where
  pub blocks : List Block
  pub whole : AllByRecursion (IsBlock layout) blocks
  pub are : AreFacts octets (bodies_in blocks) facts
  pub rest : List ℕ
  pub is : drop layout.first_gate image ≡ flat_map block blocks ++ 0 ∷ rest

-- a body is a list of facts
abbrev pub IsFacts : {C : Type 0} → (C → List ℕ) → List ℕ → Type 0
IsFacts {C} octets body = (facts : List (Fact C)) × AllFit octets facts
    × (body ≡ encodings octets facts)

-- The gate, length or body that begins at an offset can't be read: there is no gate; four octets of
-- a length that a body may have aren't there; or as many octets as the length says aren't there, or
-- are no facts.
pub data Stops {C : Type 0} (octets : C → List ℕ) (layout : Layout) (image : List ℕ) : ℕ → ℕ
    → Type 0 where
  no_gate : (at : ℕ) → drop at image ≡ [] → Stops octets layout image at at
  no_length : (at gate : ℕ) → gate ≢ 0 → drop at image ≡ gate ∷ drop (at + 1) image
      → ((n : ℕ) (after : List ℕ) → IsLength layout n
      → drop (at + 1) image ≡ to_be_bytes w32 n ++ after → ⊥)
      → Stops octets layout image at (at + 1)
  no_body : (at gate n : ℕ) → gate ≢ 0 → IsLength layout n
      → drop at image ≡ gate ∷ (to_be_bytes w32 n ++ drop (at + 5) image)
      → (length (drop (at + 5) image) < n ⊎ (IsFacts octets (take n (drop (at + 5) image)) → ⊥))
      → Stops octets layout image at (at + 5)

-- whole blocks stand up to a place where the reading stops
abbrev pub IsUnreadable : {C : Type 0} → (C → List ℕ) → Layout → List ℕ → ℕ → Type 0
IsUnreadable {C} octets layout image at = (facts : List (Fact C)) × (from : ℕ)
    × ReadTo octets layout image facts from × Stops octets layout image from at
