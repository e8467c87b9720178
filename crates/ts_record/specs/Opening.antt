-- Why a pair of images is refused, and what a crash within an opening leaves.
use Rattle.std.specs.Prelude.{◌≡◌, ℕ, List, [], ◌∷◌, take, cond}
use Rattle.ts_journal.specs.Images.{Header, EveryPair}
use Rattle.ts_journal.specs.Choice.{IsLive, IsChosen, Unchosen}
use Rattle.ts_journal.specs.declared.choice.Choice.{Choice}
use Rattle.ts_disk.specs.Disk.{State}
use Rattle.ts_record.specs.Blocks.{version_2, IsUnreadable}
use Rattle.ts_record.specs.Record.{EitherFailed}
use Rattle.ts_record.specs.declared.fault.RecordFault.{RecordFault}
use Rattle.ts_record.specs.declared.fault.RecordFault.TheVariants.{Memory, DiskFailed, Broken}
use Rattle.ts_record.specs.declared.fault.RecordFault.TheVariants.{GenerationsExhausted}
use Rattle.ts_record.specs.declared.fault.RecordFault.TheVariants.{NotFormatted}
use Rattle.ts_record.specs.declared.fault.RecordFault.TheVariants.{OldVersion, Damaged}

-- the first eight octets of a record of version 1
abbrev pub BeginsOld : List ℕ → Type 0
BeginsOld image = take 8 image ≡ 0x54 ∷ 0x53 ∷ 0x52 ∷ 0x45 ∷ 0x43 ∷ 0 ∷ 0 ∷ 1 ∷ []

-- the first disk begins with those of version 1, and the second is not live with a right header
abbrev pub IsOld : List ℕ → List ℕ → Type 0
IsOld a b = BeginsOld a × ((h : Header) → IsLive h b → ⊥)

-- the fault where no disk is in use
abbrev pub IsRefused : List ℕ → List ℕ → RecordFault → Type 0
IsRefused a b Memory = ⊥
IsRefused a b DiskFailed = ⊥
IsRefused a b Broken = ⊥
IsRefused a b GenerationsExhausted = ⊥
IsRefused a b NotFormatted = Unchosen a b × (IsOld a b → ⊥)
IsRefused a b OldVersion = Unchosen a b × IsOld a b
IsRefused a b (Damaged at) = ⊥

-- Each fault that an open answers, and where it comes from: the device failed; no disk is in use;
-- or something on the disk in use can't be read.
abbrev pub IsFault : {C : Type 0} → (C → List ℕ) → State → State → State → State → RecordFault
    → Type 0
IsFault octets old_a old_b new_a new_b Memory = Unit {0}
IsFault octets old_a old_b new_a new_b DiskFailed = EitherFailed old_a old_b new_a new_b
IsFault octets old_a old_b new_a new_b Broken = ⊥
IsFault octets old_a old_b new_a new_b GenerationsExhausted = ⊥
IsFault octets old_a old_b new_a new_b NotFormatted = IsRefused old_a.read old_b.read NotFormatted
IsFault octets old_a old_b new_a new_b OldVersion = IsRefused old_a.read old_b.read OldVersion
IsFault octets old_a old_b new_a new_b (Damaged at) = (choice : Choice)
    × IsChosen choice old_a.read old_b.read
    × IsUnreadable octets version_2 (cond choice.swapped old_b.read old_a.read) at

-- at every moment of a call each pair of images that a crash may leave is one that it could leave
-- before the call
abbrev pub NothingNew : State → State → State → State → Type 0
NothingNew old_a old_b new_a new_b =
    EveryPair (λ a b. old_a.may_leave a × old_b.may_leave b) old_a old_b new_a new_b
