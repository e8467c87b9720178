-- The parts of a certificate's extensions as plain data: octets where a description borrows them.
use Rattle.std.specs.Prelude.{ℕ, List, Option}
use Rattle.ts_make.specs.declared.description.NameText.{NameText}
use Rattle.ts_make.specs.declared.description.NameText.TheVariants as name
use Rattle.ts_make.specs.declared.description.ExtensionText.{ExtensionText}
use Rattle.ts_make.specs.declared.description.ExtensionText.TheVariants as text

-- a general name of one of three forms (RFC 5280 4.2.1.6)
pub data PartName : Type 0 where
  dns_name : List ℕ → PartName
  ip_address : List ℕ → PartName
  mail_box : List ℕ → PartName

-- a part of an extension (RFC 5280 4.2), as `ts_make` names it
pub data Part : Type 0 where
  usage_bit : ℕ → Part
  alt_name : PartName → Part
  authority : Option ℕ → Part
  permitted : PartName → Part
  excluded : PartName → Part
  crl_point : List ℕ → Part
  policy : List ℕ → Part
  mapped_policy : List ℕ → List ℕ → Part
  explicit_policy : ℕ → Part
  no_mapping : ℕ → Part
  purpose : List ℕ → Part
  no_any_policy : ℕ → Part
  critical_unknown : List ℕ → Part

-- what a name of a description says
abbrev pub name_in : NameText → PartName
name_in (name.Dns text) = dns_name text.now
name_in (name.Ip octets) = ip_address octets.now
name_in (name.Mail text) = mail_box text.now

-- what a part of a description says
abbrev pub part_in : ExtensionText → Part
part_in (text.KeyUsage bit) = usage_bit bit
part_in (text.SubjectAltName name) = alt_name (name_in name)
part_in (text.BasicConstraints length) = authority length
part_in (text.PermittedSubtree base) = permitted (name_in base)
part_in (text.ExcludedSubtree base) = excluded (name_in base)
part_in (text.DistributionPoint uri) = crl_point uri.now
part_in (text.Policy oid) = policy oid.content.now
part_in (text.PolicyMapping issuer subject) = mapped_policy issuer.content.now subject.content.now
part_in (text.RequireExplicitPolicy skip) = explicit_policy skip
part_in (text.InhibitPolicyMapping skip) = no_mapping skip
part_in (text.KeyPurpose oid) = purpose oid.content.now
part_in (text.InhibitAnyPolicy skip) = no_any_policy skip
part_in (text.Critical oid) = critical_unknown oid.content.now
