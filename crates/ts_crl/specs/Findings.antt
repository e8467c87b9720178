-- What the rules of a list ask of the extensions of its entries (RFC 5280 4.2, 5.1.2.1, 5.3): all
-- that has to be known of the entries once they were read.
use Rattle.std.specs.Prelude.{ℕ, Bool, List, Option, map}
use Rattle.std.specs.List.{list_any}
use Rattle.ts_shape.specs.declared.fault.CertFault.{CertFault}
use Rattle.ts_crl.specs.declared.extension_rule.ExtensionRule.TheVariants.{OldVersion, Repeated}
use Rattle.ts_crl.specs.declared.extension_rule.ExtensionRule.TheVariants.{Values}
use Rattle.ts_crl.specs.List.{LocatedEntry, unlocated_entry}
use Rattle.ts_crl.specs.Profile.{unprocessed_of_entries, names_issuer}
use Rattle.ts_crl.specs.Rules.{entries_fault}

-- for each rule with a place the first that is broken; the first critical extension that is not
-- processed; whether an entry names another issuer
pub record Findings : Type 0 where
  pub old_version : Option CertFault
  pub repeated : Option CertFault
  pub value : Option CertFault
  pub unprocessed : Option (List ℕ)
  pub issuer : Bool

-- what is found in entries, one after another
abbrev pub findings_of : List LocatedEntry → Findings
findings_of es =
    record {
      old_version = entries_fault OldVersion es;
      repeated = entries_fault Repeated es;
      value = entries_fault Values es;
      unprocessed = unprocessed_of_entries (map unlocated_entry es);
      issuer = list_any names_issuer (map unlocated_entry es);
    }
