-- What contracts see of a word that was decoded: the parts that it says.
use Rattle.std.specs.Prelude.{List, [], ◌∷◌, map}
use Rattle.ts_script.specs.declared.extension_words.NameWord.{NameWord}
use Rattle.ts_script.specs.declared.extension_words.NameWord.TheVariants as name
use Rattle.ts_script.specs.declared.extension_words.ExtensionWord.{ExtensionWord}
use Rattle.ts_script.specs.declared.extension_words.ExtensionWord.TheVariants as word
use Rattle.ts_script.specs.Parts.{Part, PartName, dns_name, ip_address, mail_box, usage_bit}
use Rattle.ts_script.specs.Parts.{alt_name, authority, permitted, excluded, crl_point, policy}
use Rattle.ts_script.specs.Parts.{mapped_policy, explicit_policy, no_mapping, purpose}
use Rattle.ts_script.specs.Parts.{no_any_policy, critical_unknown}

abbrev pub name_of : NameWord → PartName
name_of (name.Dns text) = dns_name text.now
name_of (name.Ip octets) = ip_address octets.items
name_of (name.Mail text) = mail_box text.now

abbrev pub parts_of : ExtensionWord → List Part
parts_of (word.KeyUsage bits) = map usage_bit bits.items
parts_of (word.SubjectAltName name) = alt_name (name_of name) ∷ []
parts_of (word.BasicConstraints length) = authority length ∷ []
parts_of (word.PermittedSubtree base) = permitted (name_of base) ∷ []
parts_of (word.ExcludedSubtree base) = excluded (name_of base) ∷ []
parts_of (word.DistributionPoint uri) = crl_point uri.now ∷ []
parts_of (word.Policy oid) = policy oid ∷ []
parts_of (word.PolicyMapping issuer subject) = mapped_policy issuer subject ∷ []
parts_of (word.RequireExplicitPolicy skip) = explicit_policy skip ∷ []
parts_of (word.InhibitPolicyMapping skip) = no_mapping skip ∷ []
parts_of (word.KeyPurpose oid) = purpose oid ∷ []
parts_of (word.InhibitAnyPolicy skip) = no_any_policy skip ∷ []
parts_of (word.Critical oid) = critical_unknown oid ∷ []
