-- What is printed of a text that is no host.
use Rattle.std.specs.Prelude.{ℕ, List, codes}
use Rattle.ts_verify.specs.declared.fault.HostFault.{HostFault}
use Rattle.ts_verify.specs.declared.fault.HostFault.TheVariants as faults

abbrev pub fault_text : HostFault → List ℕ
fault_text faults.LongName = codes "more than 253 octets"
fault_text faults.EmptyLabel = codes "an empty label"
fault_text faults.LongLabel = codes "a label of more than 63 octets"
fault_text faults.BadOctet = codes "an octet that no host name has"
fault_text faults.Numeric = codes "digits alone, and no address"
