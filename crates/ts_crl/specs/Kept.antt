-- A list that was read and is kept: what has to be known of its entries so that it is borrowed
-- again without reading them.
use Rattle.std.specs.Prelude.{◌≡◌, ◌++◌, ℕ, codes, List, Option, Some, None, Err}
use Rattle.ts_crl.specs.declared.owned.OwnedCrlFault.{OwnedCrlFault}
use Rattle.ts_crl.specs.declared.owned.OwnedCrlFault.TheVariants.{Memory, Unreadable}
use Rattle.ts_crl.specs.Fault.{ListFault, fault_in, fault_text}
use Rattle.ts_crl.specs.Table.{crl_of}

-- why octets are no list, where a call refused them for that
abbrev pub unreadable_in : OwnedCrlFault → Option ListFault
unreadable_in Memory = None
unreadable_in (Unreadable fault) = Some (fault_in fault)

-- octets are no list, where a call refused them for that
abbrev pub RefusedFor : List ℕ → OwnedCrlFault → Type 0
RefusedFor octets Memory = Unit {0}
RefusedFor octets (Unreadable fault) = crl_of octets ≡ Err (fault_in fault)

-- what is printed of it
abbrev pub kept_text : OwnedCrlFault → List ℕ
kept_text Memory = codes "Memory"
kept_text (Unreadable fault) = codes "Unreadable(" ++ (fault_text (fault_in fault) ++ codes ")")
