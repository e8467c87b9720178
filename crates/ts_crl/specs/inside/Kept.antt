-- What reading a CRL to keep it has found by each of its steps.
use Rattle.std.specs.Prelude.{◌≡◌, ℕ, false, List, Option, Some, None, Result, Ok, Err}
use Rattle.ts_der.specs.Element.{Place, Tlv}
use Rattle.ts_der.specs.Octets.{AreOctets}
use Rattle.ts_shape.specs.declared.fault.CertFault.{CertFault}
use Rattle.ts_shape.specs.Fields.{optional_of}
use Rattle.ts_crl.specs.declared.extension_rule.ExtensionRule.TheVariants.{OldVersion}
use Rattle.ts_digest.specs.Message.{IsDigestOf}
use Rattle.ts_crl.specs.declared.owned.CheckedParts.{CheckedParts}
use Rattle.ts_crl.specs.declared.owned.OwnedCrlFault.{OwnedCrlFault}
use Rattle.ts_crl.specs.declared.owned.OwnedCrlFault.TheVariants.{Memory, Unreadable}
use Rattle.ts_crl.specs.Entries.{entries_of}
use Rattle.ts_crl.specs.inside.Endings.{AreListed}
use Rattle.ts_crl.specs.Fault.{fault_in}
use Rattle.ts_crl.specs.Findings.{Findings, findings_of}
use Rattle.ts_crl.specs.List.{LocatedEntry, LocatedTbsList, LocatedList}
use Rattle.ts_crl.specs.OwnedView.{list_of}
use Rattle.ts_crl.specs.Reading.{revoked_of, crl_tbs_of, crl_signed_of, shape_of}
use Rattle.ts_crl.specs.Table.{crl_fault, list_fault, crl_of}
use Rattle.ts_crl.specs.Rules.{entries_fault}

-- where the first extensions of entries are
abbrev pub first_place : Option (List LocatedEntry) → Option CertFault
first_place None = None
first_place (Some es) = entries_fault OldVersion es

-- what is found in entries of a list that breaks no rule: no more than where the first of their
-- extensions are
abbrev pub only_place : Option CertFault → Findings
only_place first = record {
  old_version = first;
  repeated = None;
  value = None;
  unprocessed = None;
  issuer = false;
}

abbrev pub HavePlace : Option CertFault → Option (List LocatedEntry) → Type 0
HavePlace first None = Unit {0}
HavePlace first (Some es) = findings_of es ≡ only_place first

-- the entries that may be next, the fields that are signed, and a list were read, and that is what
-- was found
abbrev pub EntriesRead : Option CertFault → Place → Type 0
EntriesRead first here = (x : Option (List LocatedEntry) × Place)
    × (optional_of 0x30 revoked_of here ≡ Ok x) × HavePlace first x.0

abbrev pub TbsRead : Option CertFault → Tlv → Type 0
TbsRead first e = (t : LocatedTbsList) × (crl_tbs_of e ≡ Ok t) × HavePlace first
    t.revokedCertificates

abbrev pub SignedRead : Option CertFault → Tlv → Type 0
SignedRead first e = (l : LocatedList) × (crl_signed_of e ≡ Ok l)
    × HavePlace first l.tbsCertList.revokedCertificates

-- octets are a list that breaks no rule, and that was found in its entries
pub record WasRead (first : Option CertFault) (octets : List ℕ) : Type 0 where
  pub are_octets : AreOctets octets
  pub list : LocatedList
  pub shape : shape_of octets ≡ Ok list
  pub unbroken : list_fault list ≡ None
  pub entries : HavePlace first list.tbsCertList.revokedCertificates

-- a call answered what has to be known of octets that are a list, or the first rule that they
-- break, or memory ran out for a list
abbrev pub Checks : List ℕ → Result CheckedParts OwnedCrlFault → Type 0
Checks octets (Ok checked) = WasRead checked.first octets
    × IsDigestOf checked.digest (list_of octets).tbs
    × AreListed checked.endings.sorted.items (entries_of (list_of octets))
Checks octets (Err Memory) = crl_fault octets ≡ None
Checks octets (Err (Unreadable fault)) = crl_of octets ≡ Err (fault_in fault)
