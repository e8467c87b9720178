-- What the calls of a disk in memory came to, one after the other.
use Rattle.std.specs.Prelude.{◌≡◌, ◌⊎◌, ◌≤◌, ◌+◌, ℕ, List, [], ◌∷◌, length, cond, nat_le}
use Rattle.ts_disk.specs.declared.call.DiskCall.{DiskCall}
use Rattle.ts_disk.specs.declared.call.DiskCall.TheVariants.{Read, Write, Sync}
use Rattle.ts_disk.specs.Disk.{State, Torn, overwrite}

-- a durable disk with this image
abbrev pub start : List ℕ → State
start image = record {
  read = image;
  may_leave = λ c. c ≡ image;
  moment = 0;
  left_since = λ t c. c
      ≡ image;
  failures = 0;
}

-- a crash now may leave these images, which joins those of the moments before
abbrev pub next : State → List ℕ → (List ℕ → Type 0) → State
next old image may_leave = record {
  read = image;
  may_leave = may_leave;
  moment = old.moment + 1;
  left_since = λ t c. ((t ≤ old.moment) × old.left_since t c) ⊎ may_leave c;
  failures = old.failures;
}

-- A write tears its range until a sync, after which there is one image. A write that begins past
-- the end writes nothing.
abbrev pub after : State → DiskCall → State
after old Read = old
after old (Write at octets) =
    next old (cond (nat_le at (length old.read)) (overwrite old.read at octets.items) old.read)
    (λ c. (d : List ℕ) × old.may_leave d × Torn at (length octets.items) d c)
after old Sync = next old old.read (λ c. c ≡ old.read)

abbrev pub after_all : State → List DiskCall → State
after_all old [] = old
after_all old (call ∷ calls) = after_all (after old call) calls

-- the first image, and then the calls
abbrev pub history : List ℕ → List DiskCall → State
history image calls = after_all (start image) calls
