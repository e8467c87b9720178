-- The extensions that a description says (RFC 5280 4.2), and their octets (4.1).
use Rattle.std.specs.Prelude.{ℕ, Bool, true, false, List, [], ◌∷◌, ◌++◌, Option, Some, None}
use Rattle.std.specs.List.{flat_map}
use Rattle.ts_der.specs.Element.{encode}
use Rattle.ts_der.specs.Boolean.{boolean_content}
use Rattle.ts_extensions.specs.Extension.{Extension}
use Rattle.ts_make.specs.declared.description.ExtensionText.{ExtensionText}
use Rattle.ts_make.specs.declared.description.ExtensionText.TheVariants as part
use Rattle.ts_make.specs.declared.kind.Kind.{Kind}
use Rattle.ts_make.specs.declared.kind.Kind.TheVariants as kind
use Rattle.ts_make.specs.declared.items.Items.TheVariants as items
use Rattle.ts_make.specs.Serial.{serial_content}
use Rattle.ts_make.specs.Items.{items_of}
use Rattle.ts_make.specs.KeyUsage.{usage_numbers, usage_content}

-- ---- the octets of extensions

-- critical BOOLEAN DEFAULT FALSE: the default is absent (X.690 11.5)
abbrev pub critical_octets : Bool → List ℕ
critical_octets true = encode 0x01 (boolean_content true)
critical_octets false = []

-- Extension ::= SEQUENCE { extnID OBJECT IDENTIFIER, critical BOOLEAN DEFAULT FALSE, extnValue
-- OCTET STRING } (4.1)
unfoldable pub extension_content : Extension → List ℕ
extension_content x = encode 0x06 x.extnID
    ++ (critical_octets x.critical ++ encode 0x04 x.extnValue)

abbrev pub extension_octets : Extension → List ℕ
extension_octets x = encode 0x30 (extension_content x)

-- extensions [3] EXPLICIT Extensions OPTIONAL, Extensions ::= SEQUENCE SIZE (1..MAX) OF Extension
-- (4.1): absent where there are none
unfoldable pub field_octets : List Extension → List ℕ
field_octets [] = []
field_octets (x ∷ xs) = encode 0xA3 (encode 0x30 (flat_map extension_octets (x ∷ xs)))

-- the field, absent where there are none
abbrev pub field_of : List Extension → Option (List Extension)
field_of [] = None
field_of (x ∷ xs) = Some (x ∷ xs)

-- ---- extensions

-- id-ce is 2.5.29 (4.2.1): the content of the OBJECT IDENTIFIER of one of its arcs
abbrev pub id_ce : ℕ → List ℕ
id_ce arc = 0x55 ∷ 0x1D ∷ arc ∷ []

abbrev pub extension : List ℕ → Bool → List ℕ → Extension
extension id critical value = record { extnID = id; critical = critical; extnValue = value }

-- ---- those of which each part is one

-- pathLenConstraint INTEGER (0..MAX) OPTIONAL
abbrev pub path_length : Option ℕ → List ℕ
path_length None = []
path_length (Some n) = encode 0x02 (serial_content n)

-- BasicConstraints ::= SEQUENCE { cA BOOLEAN DEFAULT FALSE, pathLenConstraint INTEGER (0..MAX)
-- OPTIONAL } of a CA (4.2.1.9)
unfoldable pub basic_constraints_value : Option ℕ → List ℕ
basic_constraints_value length = encode 0x30
    (encode 0x01 (boolean_content true) ++ path_length length)

-- the extensions that a part alone is
abbrev pub part_extensions : Kind → ExtensionText → List Extension
-- basicConstraints (4.2.1.9)
part_extensions kind.BasicConstraints (part.BasicConstraints length) =
    extension (id_ce 19) true (basic_constraints_value length) ∷ []
-- inhibitAnyPolicy (4.2.1.14)
part_extensions kind.InhibitAnyPolicy (part.InhibitAnyPolicy n) =
    extension (id_ce 54) true (encode 0x02 (serial_content n)) ∷ []
-- any other, with the value NULL (X.690 8.8)
part_extensions kind.Critical (part.Critical oid) = extension oid.content.now true (0x05 ∷ 0 ∷ []) ∷
    []
part_extensions other text = []

-- ---- those that parts gather in

-- a SEQUENCE of this tag, absent where it would be empty
abbrev pub tagged_if_any : ℕ → List ℕ → List ℕ
tagged_if_any tag [] = []
tagged_if_any tag (octet ∷ content) = encode tag (octet ∷ content)

-- the extension whose value is a SEQUENCE, absent where it would be empty
abbrev pub sequence_extension : ℕ → Bool → List ℕ → List Extension
sequence_extension arc critical [] = []
sequence_extension arc critical (octet ∷ content) =
    extension (id_ce arc) critical (encode 0x30 (octet ∷ content)) ∷ []

-- NameConstraints ::= SEQUENCE { permittedSubtrees [0] GeneralSubtrees OPTIONAL, excludedSubtrees
-- [1] GeneralSubtrees OPTIONAL } (4.2.1.10)
unfoldable pub constraints_content : List ExtensionText → List ℕ
constraints_content texts = tagged_if_any 0xA0 (items_of items.PermittedSubtrees texts)
    ++ tagged_if_any 0xA1 (items_of items.ExcludedSubtrees texts)

-- PolicyConstraints ::= SEQUENCE { requireExplicitPolicy [0] SkipCerts OPTIONAL,
-- inhibitPolicyMapping [1] SkipCerts OPTIONAL } (4.2.1.11)
unfoldable pub policy_constraints_content : List ExtensionText → List ℕ
policy_constraints_content texts =
    items_of items.ExplicitPolicy texts ++ items_of items.InhibitedMapping texts

-- keyUsage (4.2.1.3), absent where no bit is set
abbrev pub key_usage : List ℕ → List Extension
key_usage [] = []
key_usage (n ∷ numbers) = extension (id_ce 15) true (encode 0x03 (usage_content (n ∷ numbers))) ∷ []

-- ---- all of them

-- the extensions of one kind
abbrev pub of_kind : Kind → List ExtensionText → List Extension
of_kind kind.KeyUsage texts = key_usage (usage_numbers texts)
-- subjectAltName (4.2.1.6)
of_kind kind.SubjectAltName texts = sequence_extension 17 false
    (items_of items.AlternativeNames texts)
of_kind kind.BasicConstraints texts = flat_map (part_extensions kind.BasicConstraints) texts
-- nameConstraints (4.2.1.10)
of_kind kind.NameConstraints texts = sequence_extension 30 true (constraints_content texts)
-- cRLDistributionPoints (4.2.1.13)
of_kind kind.CrlDistributionPoints texts =
    sequence_extension 31 false (items_of items.DistributionPoints texts)
-- certificatePolicies (4.2.1.4)
of_kind kind.CertificatePolicies texts = sequence_extension 32 false (items_of items.Policies texts)
-- policyMappings (4.2.1.5)
of_kind kind.PolicyMappings texts = sequence_extension 33 true (items_of items.PolicyMappings texts)
-- policyConstraints (4.2.1.11)
of_kind kind.PolicyConstraints texts = sequence_extension 36 true (policy_constraints_content texts)
-- extKeyUsage (4.2.1.12)
of_kind kind.ExtendedKeyUsage texts = sequence_extension 37 false (items_of items.KeyPurposes texts)
of_kind kind.InhibitAnyPolicy texts = flat_map (part_extensions kind.InhibitAnyPolicy) texts
of_kind kind.Critical texts = flat_map (part_extensions kind.Critical) texts

-- the kinds, in the order in which they stand
abbrev pub kinds : List Kind
kinds =
    kind.KeyUsage ∷ kind.SubjectAltName ∷ kind.BasicConstraints ∷ kind.NameConstraints
    ∷ kind.CrlDistributionPoints
    ∷ kind.CertificatePolicies ∷ kind.PolicyMappings ∷ kind.PolicyConstraints
    ∷ kind.ExtendedKeyUsage ∷ kind.InhibitAnyPolicy ∷ kind.Critical ∷ []

unfoldable pub described_extensions : List ExtensionText → List Extension
described_extensions texts = flat_map (λ k. of_kind k texts) kinds
