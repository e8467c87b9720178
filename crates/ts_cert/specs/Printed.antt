-- What is printed of why a certificate is not kept.
use Rattle.std.specs.Prelude.{ℕ, List, ◌++◌, codes}
use Rattle.std.specs.Fmt.{decimal}
use Rattle.ts_shape.specs.Printed.{rule_name}
use Rattle.ts_cert.specs.declared.owned.OwnedCertFault.{OwnedCertFault}
use Rattle.ts_cert.specs.declared.owned.OwnedCertFault.TheVariants.{Memory, Unreadable}

-- the name of the reason, and after Unreadable the name of the rule and its place in parentheses
abbrev pub owned_text : OwnedCertFault → List ℕ
owned_text Memory = codes "Memory"
owned_text (Unreadable fault) = codes "Unreadable("
    ++ (rule_name fault.kind ++ (codes " at " ++ (decimal fault.at ++ codes ")")))
