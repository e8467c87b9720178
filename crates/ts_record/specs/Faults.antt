-- A disk's fault as a record's.
use Rattle.ts_disk.specs.declared.fault.DiskFault.{DiskFault}
use Rattle.ts_disk.specs.declared.fault.DiskFault.TheVariants as disk
use Rattle.ts_record.specs.declared.fault.RecordFault.{RecordFault}
use Rattle.ts_record.specs.declared.fault.RecordFault.TheVariants.{Memory, DiskFailed}

abbrev pub fault_of : DiskFault → RecordFault
fault_of disk.Memory = Memory
fault_of disk.Failed = DiskFailed
