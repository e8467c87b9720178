-- The laws of a disk hold after whatever was done to a file.
use Rattle.std.proofs.Common.{◌≡◌, ℕ, ◌<◌, ◌^◌, List, [], ◌∷◌, length, refl, sym, subst, arith, inl}
use Rattle.std.proofs.Common.{inr, ⊎_elim, nat_le}
use Rattle.ts_disk.specs.Disk.{State, IsDisk, Call, Same}
use Rattle.ts_disk.specs.Past.{next}
use Rattle.ts_disk.specs.Replays.{IsPast, seen, torn_if, torn_nothing}
use Rattle.ts_disk.specs.Crash.{written_within}
use Rattle.ts_file.specs.History.{Event, opened, wrote, failed, synced, unsynced_state, torn_images}
use Rattle.ts_file.specs.History.{disk_after}
use Rattle.ts_file.specs.FileDisk.{state_of}
use Rattle.ts_file.specs.declared.file.FileDisk.{FileDisk}

unsynced_past : (octets : List ℕ) → IsPast (unsynced_state octets)
unsynced_past octets = record {
  read_is_left = tt;
  counts_now = λ t c le left. tt;
  only_now = λ c left. tt;
}

next_past : (old : State) (image : List ℕ) (may_leave : List ℕ → Type 0) → may_leave image
    → IsPast (next old image may_leave)
next_past old image may_leave left = record {
  read_is_left = left;
  counts_now = λ t c le now. inr now;
  only_now = λ c since. ⊎_elim (λ past. absurd (omega (arith, past.0))) (λ now. now) since;
}

past_after : (events : List Event) → IsPast (disk_after events)
past_after [] = unsynced_past []
past_after (opened octets ∷ older) = unsynced_past octets
past_after (wrote at octets ∷ older) =
    let old = disk_after older in
    next_past old (written_within old.read at octets) (torn_images old.may_leave at octets) (
      old.read,
      (past_after older).read_is_left,
      torn_if
          (nat_le at (length old.read)) at old.read octets refl,
    )
past_after (failed at octets ∷ older) =
    let old = disk_after older in
    next_past old old.read (torn_images old.may_leave at octets)
    (old.read, (past_after older).read_is_left, torn_nothing at (length octets) old.read)
past_after (synced ∷ older) = next_past (disk_after older) (disk_after older).read
    (λ c. c ≡ (disk_after older).read) refl

pub seen_disk : (events : List Event) (octets : List ℕ) (failures : ℕ) → length octets < 2 ^ 63
    → octets ≡ (disk_after events).read → IsDisk (seen octets failures (disk_after events))
seen_disk events octets failures bounded is =
    let past = past_after events in
    record {
      bounded = bounded;
      read_is_left = subst (disk_after events).may_leave
          (sym is) past.read_is_left;
      counts_now = past.counts_now;
      only_now = past.only_now;
    }

abbrev pub lawful_of : {F : Type 0} (disk : FileDisk F) → IsDisk (state_of disk)
lawful_of disk =
    let events = disk.file.history.events in
    seen_disk events (disk_after events).read disk.failures
    (subst (λ n. n < 2 ^ 63) disk.sized disk.bounded) refl

-- what one event more does to the images
next_call : (old : State) (image : List ℕ) (may_leave : List ℕ → Type 0)
    (step : List ℕ → List ℕ → Type 0)
    → ((c : List ℕ) → may_leave c → (d : List ℕ) × old.may_leave d × step d c)
    → Call step old (next old image may_leave)
next_call old image may_leave step images = record {
  images = images;
  later = omega arith;
  nothing_else = λ t c le since. ⊎_elim (λ past. inl past.1) (λ now. inr now) since;
  keeps = λ t c le left. inl (le, left);
}

see : (step : List ℕ → List ℕ → Type 0) (old new : State) (octets others : List ℕ) (m n : ℕ)
    → Call step old new → Call step (seen octets m old) (seen others n new)
see step old new octets others m n call = record {
  images = call.images;
  later = call.later;
  nothing_else = call.nothing_else;
  keeps = call.keeps;
}

-- a sync leaves one of the images that a crash could leave before it
pub synced_call : (events later : List Event) (old new : List ℕ) (m n : ℕ)
    → later ≡ synced ∷ events → Call Same (seen old m (disk_after events))
    (seen new n (disk_after later))
synced_call events later old new m n is =
    let past = disk_after events in
    see Same past (disk_after later) old new m n
    (subst (λ es. Call Same past (disk_after es)) (sym is)
    (next_call past _ _ Same (λ c left.
    (past.read, (past_after events).read_is_left, sym left))))
