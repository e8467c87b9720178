-- A file as a disk: what was done to it decides what a read gives, and what a crash may leave.
use Rattle.ts_file.specs.declared.file.FileDisk.{FileDisk}
use Rattle.ts_file.specs.History.{disk_after}
use Rattle.ts_disk.specs.Disk.{State}
use Rattle.ts_disk.specs.Replays.{seen}

-- the disk after what was done to the file, with the count of failures
abbrev pub state_of : {F : Type 0} → FileDisk F → State
state_of disk = let past = disk_after disk.file.history.events in seen past.read disk.failures past
