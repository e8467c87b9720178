-- What was done to a file since it was opened, and what a disk is after it.
use Rattle.std.specs.Prelude.{◌≡◌, ℕ, List, [], ◌∷◌, length, slice_index, ◌==◌, if◌then◌else◌}
use Rattle.ts_disk.specs.Crash.{written_within}
use Rattle.ts_disk.specs.Disk.{State, Torn}
use Rattle.ts_disk.specs.Past.{next}

-- The file was opened and held these octets; octets were written at an offset; a write at an offset
-- failed; it was synced.
pub data Event : Type 0 where
  opened : List ℕ → Event
  wrote : ℕ → List ℕ → Event
  failed : ℕ → List ℕ → Event
  synced : Event

-- a kind and an offset, with octets, as they are noted
abbrev pub event_of : List ℕ → List ℕ → Event
event_of numbers octets =
    if slice_index numbers 0 == 0 then opened octets
    else (if slice_index numbers 0 == 1 then wrote (slice_index numbers 1) octets
    else (if slice_index numbers 0 == 2 then failed (slice_index numbers 1) octets
    else synced))

-- A file that was opened and is not yet synced: a read gives these octets, and a crash may leave
-- any image.
abbrev pub unsynced_state : List ℕ → State
unsynced_state octets = record {
  read = octets;
  may_leave = λ c. Unit {0};
  moment = 0;
  left_since = λ t c. Unit {0};
  failures = 0;
}

-- what a write of octets at an offset leaves of the images that a crash may leave
abbrev pub torn_images : (List ℕ → Type 0) → ℕ → List ℕ → List ℕ → Type 0
torn_images may_leave at octets c = (d : List ℕ) × may_leave d × Torn at (length octets) d c

-- The disk after these events, the last of which is first. A write tears its range until a sync,
-- also one that failed; only one that did not fail is read.
abbrev pub disk_after : List Event → State
disk_after [] = unsynced_state []
disk_after (opened octets ∷ older) = unsynced_state octets
disk_after (wrote at octets ∷ older) =
    next (disk_after older) (written_within (disk_after older).read at octets)
    (torn_images (disk_after older).may_leave at octets)
disk_after (failed at octets ∷ older) = next (disk_after older) (disk_after older).read
    (torn_images (disk_after older).may_leave at octets)
disk_after (synced ∷ older) = next (disk_after older) (disk_after older).read
    (λ c. c ≡ (disk_after older).read)
