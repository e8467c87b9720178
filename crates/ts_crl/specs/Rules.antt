-- Rules of the extensions of a list and of its entries, whose places count (RFC 5280 4.2, 5.1.2.1,
-- 5.2, 5.3).
use Rattle.std.specs.Prelude.{◌≡◌, List, [], ◌∷◌, map, Option, Some, None, unwrap_or, if◌then◌else◌}
use Rattle.std.specs.Str.{bytes_eq}
use Rattle.ts_shape.specs.declared.fault.CertFault.{CertFault}
use Rattle.ts_shape.specs.declared.fault.CertRule.TheVariants.{AlgorithmMismatch}
use Rattle.ts_shape.specs.declared.fault.CertRule.TheVariants.{ExtensionsInOldVersion}
use Rattle.ts_shape.specs.Fault.{breaks}
use Rattle.ts_shape.specs.Repeats.{first_repeated}
use Rattle.ts_shape.specs.Shape.{◌or_else◌}
use Rattle.ts_ext.specs.declared.known.Holder.{Holder}
use Rattle.ts_ext.specs.declared.known.Holder.TheVariants.{List as ListHolder, Entry}
use Rattle.ts_ext.specs.declared.known.Known.TheVariants.{DeltaCrlIndicator}
use Rattle.ts_extensions.specs.Extension.{Extension, Located, unlocated}
use Rattle.ts_extensions.specs.ValueRules.{repeated_fault, values_fault, AreValid}
use Rattle.ts_crl.specs.declared.extension_rule.ExtensionRule.{ExtensionRule}
use Rattle.ts_crl.specs.declared.extension_rule.ExtensionRule.TheVariants.{OldVersion, Repeated}
use Rattle.ts_crl.specs.declared.extension_rule.ExtensionRule.TheVariants.{Values}
use Rattle.ts_crl.specs.declared.version.ListVersion.{ListVersion}
use Rattle.ts_crl.specs.declared.version.ListVersion.TheVariants.{V1, V2}
use Rattle.ts_crl.specs.Entries.{entries_of}
use Rattle.ts_crl.specs.List.{LocatedExtensions, LocatedEntry, LocatedList, RevokedCertificate}
use Rattle.ts_crl.specs.List.{CertificateList}
use Rattle.ts_crl.specs.Values.{is_known, with_number, located_with_number}

-- ---- whose rules a value keeps

-- BaseCRLNumber ::= CRLNumber, INTEGER (0..MAX) (5.2.4): the value of deltaCRLIndicator is one that
-- cRLNumber may have
abbrev pub as_ruled : Extension → Extension
as_ruled x = if is_known DeltaCrlIndicator x then with_number x else x

abbrev pub located_as_ruled : Located → Located
located_as_ruled x = if is_known DeltaCrlIndicator (unlocated x) then located_with_number x else x

-- extensions, each under the object identifier whose rules its value keeps: of a list, and of an
-- entry, where each is its own
abbrev pub all_as_ruled : Holder → List Extension → List Extension
all_as_ruled ListHolder xs = map as_ruled xs
all_as_ruled other xs = xs

abbrev pub all_located_as_ruled : Holder → List Located → List Located
all_located_as_ruled ListHolder xs = map located_as_ruled xs
all_located_as_ruled other xs = xs

-- ---- the first rule that is broken

-- the first place at which extensions break a rule
abbrev pub rule_fault : ExtensionRule → Holder → LocatedExtensions → Option CertFault
-- a list of version 1 has none (5.1.2.1)
rule_fault OldVersion holder x = Some (breaks x.at ExtensionsInOldVersion)
-- none occurs twice (4.2)
rule_fault Repeated holder x = repeated_fault x.extensions
-- the value of each is one that its extension has (5.2, 5.3)
rule_fault Values holder x = values_fault holder (all_located_as_ruled holder x.extensions)

abbrev pub fault_if_any : ExtensionRule → Holder → Option LocatedExtensions → Option CertFault
fault_if_any rule holder None = None
fault_if_any rule holder (Some x) = rule_fault rule holder x

abbrev pub entries_fault : ExtensionRule → List LocatedEntry → Option CertFault
entries_fault rule [] = None
entries_fault rule (e ∷ es) = fault_if_any rule Entry e.crlEntryExtensions or_else entries_fault
    rule es

-- the entries precede the extensions of the list
abbrev pub fault_by_place : ExtensionRule → LocatedList → Option CertFault
fault_by_place rule l = entries_fault rule
    (unwrap_or l.tbsCertList.revokedCertificates []) or_else fault_if_any rule ListHolder
    l.tbsCertList.crlExtensions

abbrev pub crl_version_fault : ListVersion → LocatedList → Option CertFault
crl_version_fault V1 l = fault_by_place OldVersion l
crl_version_fault V2 l = None

-- signatureAlgorithm is the same as signature (5.1.1.2)
abbrev pub crl_algorithms_fault : LocatedList → Option CertFault
crl_algorithms_fault l = if bytes_eq l.tbsCertList.signature.whole l.signatureAlgorithm.whole then
    None
    else Some (breaks l.identifier_at AlgorithmMismatch)

-- the first of these rules that a list breaks
abbrev pub placed_fault : LocatedList → Option CertFault
placed_fault l = crl_algorithms_fault l or_else crl_version_fault l.tbsCertList.version l or_else
    fault_by_place Repeated l or_else fault_by_place Values l

-- ---- what keeps the rules

abbrev pub Keeps : ExtensionRule → Holder → List Extension → Type 0
Keeps OldVersion holder xs = ⊥
Keeps Repeated holder xs = first_repeated (λ x. x.extnID) [] xs ≡ None
Keeps Values holder xs = AreValid holder (all_as_ruled holder xs)

abbrev pub KeepsIfAny : ExtensionRule → Holder → Option (List Extension) → Type 0
KeepsIfAny rule holder None = Unit {0}
KeepsIfAny rule holder (Some xs) = Keeps rule holder xs

abbrev pub EntriesKeep : ExtensionRule → List RevokedCertificate → Type 0
EntriesKeep rule [] = Unit {0}
EntriesKeep rule (e ∷ es) = KeepsIfAny rule Entry e.crlEntryExtensions × EntriesKeep rule es

-- the extensions of each entry, and those of the list
abbrev pub AllKeep : ExtensionRule → CertificateList → Type 0
AllKeep rule c = EntriesKeep rule (entries_of c)
    × KeepsIfAny rule ListHolder c.tbsCertList.crlExtensions

-- a list of version 1 has no extensions
abbrev pub FitVersion : ListVersion → CertificateList → Type 0
FitVersion V1 c = AllKeep OldVersion c
FitVersion V2 c = Unit {0}
