-- A record of version 1: on one disk, a header of 16 octets, and then blocks.
use Rattle.std.specs.Prelude.{◌≡◌, ◌≤◌, ℕ, List, [], ◌∷◌, ◌++◌}
use Rattle.ts_journal.specs.Images.{Member}
use Rattle.ts_synod.specs.declared.message.Fact.{Fact}
use Rattle.ts_record.specs.Facts.{OpensTo}
use Rattle.ts_record.specs.Blocks.{version_1, HoldsFacts, IsUnreadable}
use Rattle.ts_record.specs.declared.fault.RecordFault.{RecordFault}
use Rattle.ts_record.specs.declared.fault.RecordFault.TheVariants.{Memory, DiskFailed, Broken}
use Rattle.ts_record.specs.declared.fault.RecordFault.TheVariants.{GenerationsExhausted}
use Rattle.ts_record.specs.declared.fault.RecordFault.TheVariants.{NotFormatted}
use Rattle.ts_record.specs.declared.fault.RecordFault.TheVariants.{OldVersion, Damaged}

-- the octets before the first gate
abbrev pub old_head : Member → List ℕ
old_head m = 0x54 ∷ 0x53 ∷ 0x52 ∷ 0x45 ∷ 0x43 ∷ 0 ∷ 0 ∷ 1 ∷ m.node ∷ m.nodes ∷ 0 ∷ 0 ∷ 0 ∷ 0 ∷ 0
    ∷ 0 ∷ []

-- an image begins with the header of this member, one of 1 to 9 nodes
pub record IsOldOf (m : Member) (image : List ℕ) : Type 0 where
  pub node_from : 1 ≤ m.node
  pub node_to : m.node ≤ m.nodes
  pub nodes_to : m.nodes ≤ 9
  pub rest : List ℕ
  pub is : image ≡ old_head m ++ rest

-- the image opens to these facts, as the record of this member
abbrev pub OpensOld : {C : Type 0} → (C → List ℕ) → Member → List (Fact C) → List ℕ → Type 0
OpensOld octets m facts image = IsOldOf m image × HoldsFacts octets version_1 facts image

-- a pair of images that opens, as the record of any member, opens to these facts: there are all of
-- them or no record
abbrev pub AllFactsOrNone : {C : Type 0} → (C → List ℕ) → List (Fact C) → List ℕ → List ℕ → Type 0
AllFactsOrNone {C} octets facts a b =
    (m : Member) (others : List (Fact C)) → OpensTo octets m others a b → others ≡ facts

-- Each fault of a migration, and where it comes from: a device failed; no header of version 1 is
-- there; or a gate, length or body after it can't be read.
abbrev pub IsMigrationFault : {C : Type 0} → (C → List ℕ) → List ℕ → Type 0 → RecordFault → Type 0
IsMigrationFault octets image failed Memory = Unit {0}
IsMigrationFault octets image failed DiskFailed = failed
IsMigrationFault octets image failed Broken = ⊥
IsMigrationFault octets image failed GenerationsExhausted = ⊥
IsMigrationFault octets image failed NotFormatted = (m : Member) → IsOldOf m image → ⊥
IsMigrationFault octets image failed OldVersion = ⊥
IsMigrationFault octets image failed (Damaged at) =
    (m : Member) × IsOldOf m image × IsUnreadable octets version_1 image at
