-- The fault of a connection by that of its records.
use Rattle.ts_guard.specs.declared.fault.GuardFault.{GuardFault}
use Rattle.ts_guard.specs.declared.fault.GuardFault.TheVariants.{Memory}
use Rattle.ts_access.specs.declared.fault.EntranceFault.{EntranceFault}
use Rattle.ts_access.specs.declared.fault.EntranceFault.TheVariants as faults

abbrev pub of_guard : GuardFault → EntranceFault
of_guard Memory = faults.Memory
of_guard fault = faults.Guard fault
