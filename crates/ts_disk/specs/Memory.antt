-- A disk in memory as a disk: its calls decide what a crash may leave.
use Rattle.std.specs.Prelude.{ℕ, List}
use Rattle.ts_disk.specs.declared.call.DiskCall.{DiskCall}
use Rattle.ts_disk.specs.declared.memory.MemDisk.{MemDisk}
use Rattle.ts_disk.specs.declared.crash.Torn.{Torn}
use Rattle.ts_disk.specs.Crash.{left_of}
use Rattle.ts_disk.specs.Disk.{State, IsDisk}
use Rattle.ts_disk.specs.Fuse.{Plan}
use Rattle.ts_disk.specs.Past.{history}
use Rattle.ts_disk.specs.Replays.{seen, seen_disk}

abbrev pub state_of : MemDisk → State
state_of disk = seen disk.octets.items disk.failures (history disk.first.items disk.calls.items)

abbrev pub lawful_of : (disk : MemDisk) → IsDisk (state_of disk)
lawful_of disk = seen_disk disk.first.items disk.calls.items disk.octets.items disk.failures
    disk.bounded disk.replayed

-- the calls that did not fail
abbrev pub calls_of : MemDisk → List DiskCall
calls_of disk = disk.calls.items

-- what a crash now leaves
abbrev pub left_by : Torn → MemDisk → List ℕ
left_by torn disk = left_of torn disk.first.items disk.first.items disk.calls.items

-- which of its next calls fail
abbrev pub plan_of : MemDisk → Plan
plan_of disk = record { made = disk.made; passing = disk.fuse; fails_at = disk.fails_at }
