-- What is printed of what is given that is refused, and of what speaks against a CRL.
use Rattle.std.specs.Prelude.{ℕ, List, ◌++◌, codes}
use Rattle.std.specs.Fmt.{decimal}
use Rattle.ts_shape.specs.Printed.{rule_name}
use Rattle.ts_crl.specs.Fault.{fault_in, fault_text}
use Rattle.ts_revoke.specs.Printed.{doubt_text as said_against}
use Rattle.ts_given.specs.declared.fault.GivenFault.{GivenFault}
use Rattle.ts_given.specs.declared.fault.GivenFault.TheVariants as faults
use Rattle.ts_given.specs.declared.vouching.CrlDoubt.{CrlDoubt}
use Rattle.ts_given.specs.declared.vouching.CrlDoubt.TheVariants as doubts

-- of a certificate or a CRL its place too; of a certificate the rule that is broken, and where
abbrev pub given_text : GivenFault → List ℕ
given_text faults.Memory = codes "out of memory"
given_text faults.Count = codes "there are 1 to 33 certificates"
given_text faults.NoAnchor = codes "no anchor is a certificate by RFC 5280"
given_text (faults.Certificate place fault) = codes "certificate " ++ (decimal place
    ++ (codes " can't be read: " ++ (rule_name fault.kind
    ++ (codes " at octet " ++ decimal fault.at))))
given_text (faults.Crl place fault) = codes "CRL " ++ (decimal place
    ++ (codes " can't be used: " ++ fault_text (fault_in fault)))

abbrev pub doubt_text : CrlDoubt → List ℕ
doubt_text doubts.NoCrl = codes "no CRL that a store takes"
doubt_text (doubts.Against doubt) = said_against doubt
