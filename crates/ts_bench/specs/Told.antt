-- A reading in numbers.
use Rattle.std.specs.Prelude.{ℕ, Bool, false, List, Option, Some, None, Result, Ok, Err}
use Rattle.ts_shape.specs.declared.fault.CertFault.{CertFault}
use Rattle.ts_shape.specs.Fault.{code_of}
use Rattle.ts_crl.specs.Entries.{has_entry}
use Rattle.ts_crl.specs.Fault.{ListFault, broken, fault_code}
use Rattle.ts_crl.specs.List.{CertificateList}

-- the number of the rule that is broken, 0 where none is
abbrev pub rule_number : Option CertFault → ℕ
rule_number None = 0
rule_number (Some fault) = code_of fault.kind

-- where it is broken, 0 where none is
abbrev pub place_of : Option CertFault → ℕ
place_of None = 0
place_of (Some fault) = fault.at

-- the same for a CRL, some of whose rules have no place
abbrev pub list_rule_number : Option ListFault → ℕ
list_rule_number None = 0
list_rule_number (Some fault) = fault_code fault

abbrev pub list_place_of : Option ListFault → ℕ
list_place_of (Some (broken fault)) = fault.at
list_place_of other = 0

-- whether a list that could be read has an entry of a serial number
abbrev pub is_listed : List ℕ → Result CertificateList ListFault → Bool
is_listed serial (Ok list) = has_entry serial list
is_listed serial (Err fault) = false
