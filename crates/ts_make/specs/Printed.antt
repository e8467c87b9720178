-- What is printed of why a certificate was not made.
use Rattle.std.specs.Prelude.{ℕ, List, ◌++◌, codes}
use Rattle.std.specs.Fmt.{decimal}
use Rattle.ts_shape.specs.Printed.{rule_name}
use Rattle.ts_make.specs.declared.fault.MakeFault.{MakeFault}
use Rattle.ts_make.specs.declared.fault.MakeFault.TheVariants.{Memory, TooLong, Unreadable}

-- the name of the reason, and after Unreadable the name of the rule and its place in parentheses
abbrev pub fault_text : MakeFault → List ℕ
fault_text Memory = codes "Memory"
fault_text TooLong = codes "TooLong"
fault_text (Unreadable fault) = codes "Unreadable("
    ++ (rule_name fault.kind ++ (codes " at " ++ (decimal fault.at ++ codes ")")))
