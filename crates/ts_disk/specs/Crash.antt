-- What a crash leaves of a disk in memory: of what was written since the last sync, what the disk
-- held before, what was written, or one octet everywhere.
use Rattle.std.specs.Prelude.{ℕ, List, [], ◌∷◌, length, replicate, cond, nat_le}
use Rattle.ts_disk.specs.declared.call.DiskCall.{DiskCall}
use Rattle.ts_disk.specs.declared.call.DiskCall.TheVariants.{Read, Write, Sync}
use Rattle.ts_disk.specs.declared.crash.Torn.{Torn}
use Rattle.ts_disk.specs.declared.crash.Torn.TheVariants.{Old, New, Byte}
use Rattle.ts_disk.specs.Disk.{overwrite}

-- the image with these octets at an offset, which is not past its end
abbrev pub written_within : List ℕ → ℕ → List ℕ → List ℕ
written_within image at octets = cond (nat_le at (length image)) (overwrite image at octets) image

-- what a crash leaves of a write that isn't synced, over what one before it leaves
abbrev pub torn_by : Torn → List ℕ → ℕ → List ℕ → List ℕ
torn_by Old image at octets = image
torn_by New image at octets = written_within image at octets
torn_by (Byte octet) image at octets = written_within image at (replicate (length octets) octet)

-- what a read gives after a call
abbrev pub read_after : List ℕ → DiskCall → List ℕ
read_after read Read = read
read_after read (Write at octets) = written_within read at octets.items
read_after read Sync = read

-- what a crash leaves after a call
abbrev pub left_after : Torn → List ℕ → List ℕ → DiskCall → List ℕ
left_after torn read left Read = left
left_after torn read left (Write at octets) = torn_by torn left at octets.items
left_after torn read left Sync = read

-- what a crash leaves after calls, of a disk that a read gave the first image of, and a crash the
-- second
abbrev pub left_of : Torn → List ℕ → List ℕ → List DiskCall → List ℕ
left_of torn read left [] = left
left_of torn read left (call ∷ calls) =
    left_of torn (read_after read call) (left_after torn read left call) calls
