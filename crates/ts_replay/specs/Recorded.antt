-- What a record knows: of the octets of its two files, the commands that its node knows to be
-- chosen from position 1 on without a gap.
use Rattle.std.specs.Prelude.{◌≡◌, ℕ, List, cond}
use Rattle.ts_command.specs.declared.command.Command.{Command}
use Rattle.ts_command.specs.Octets.{octets_of}
use Rattle.ts_journal.specs.Choice.{IsChosen}
use Rattle.ts_journal.specs.Images.{Member}
use Rattle.ts_journal.specs.declared.choice.Choice.{Choice}
use Rattle.ts_record.specs.Blocks.{version_2, IsUnreadable}
use Rattle.ts_record.specs.Facts.{OpensTo}
use Rattle.ts_record.specs.Opening.{IsRefused}
use Rattle.ts_record.specs.declared.fault.RecordFault.{RecordFault}
use Rattle.ts_record.specs.declared.fault.RecordFault.TheVariants.{Memory, DiskFailed, Damaged}
use Rattle.ts_synod.specs.declared.message.Fact.{Fact}
use Rattle.ts_synod.specs.Force.{log_of}
use Rattle.ts_synod.specs.Log.{prefix}

-- the two open to facts as the record of a node, and of these facts the commands are the prefix
pub record AreKnown (first second : List ℕ) (commands : List Command) : Type 0 where
  pub owner : Member
  pub facts : List (Fact Command)
  pub opens : OpensTo octets_of owner facts first second
  pub are : commands ≡ prefix (log_of facts)

-- Why the two are no record: something in the file in use can't be read, or none is in use
-- (`IsRefused`); or memory was refused.
abbrev pub IsNoRecord : List ℕ → List ℕ → RecordFault → Type 0
IsNoRecord first second Memory = Unit {0}
IsNoRecord first second (Damaged at) = (choice : Choice) × IsChosen choice first second
    × IsUnreadable octets_of version_2 (cond choice.swapped second first) at
IsNoRecord first second fault = IsRefused first second fault

-- a disk in memory fails only where memory is refused
abbrev pub or_memory : RecordFault → RecordFault
or_memory DiskFailed = Memory
or_memory fault = fault
