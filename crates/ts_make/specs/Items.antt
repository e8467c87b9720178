-- What the parts of a description put into the lists of which values of extensions consist (RFC
-- 5280 4.2.1).
use Rattle.std.specs.Prelude.{ℕ, List, [], ◌++◌}
use Rattle.std.specs.List.{flat_map}
use Rattle.ts_der.specs.Element.{encode}
use Rattle.ts_make.specs.declared.description.NameText.{NameText}
use Rattle.ts_make.specs.declared.description.NameText.TheVariants.{Dns, Ip, Mail}
use Rattle.ts_make.specs.declared.description.ExtensionText.{ExtensionText}
use Rattle.ts_make.specs.declared.description.ExtensionText.TheVariants as part
use Rattle.ts_make.specs.declared.items.Items.{Items}
use Rattle.ts_make.specs.declared.items.Items.TheVariants as items
use Rattle.ts_make.specs.Serial.{serial_content}

-- GeneralName ::= CHOICE { .., rfc822Name [1] IA5String, dNSName [2] IA5String, .., iPAddress [7]
-- OCTET STRING, .. } (4.2.1.6)
abbrev pub general_name : NameText → List ℕ
general_name (Dns text) = encode 0x82 text.now
general_name (Ip octets) = encode 0x87 octets.now
general_name (Mail text) = encode 0x81 text.now

-- GeneralSubtree ::= SEQUENCE { base GeneralName, minimum [0] BaseDistance DEFAULT 0, maximum [1]
-- BaseDistance OPTIONAL } (4.2.1.10): the minimum is the default, and there is no maximum
abbrev pub general_subtree : NameText → List ℕ
general_subtree name = encode 0x30 (general_name name)

-- DistributionPoint ::= SEQUENCE { distributionPoint [0] DistributionPointName OPTIONAL, .. },
-- DistributionPointName ::= CHOICE { fullName [0] GeneralNames, .. } (4.2.1.13): one name, a
-- uniformResourceIdentifier [6] IA5String
abbrev pub distribution_point : List ℕ → List ℕ
distribution_point uri = encode 0x30 (encode 0xA0 (encode 0xA0 (encode 0x86 uri)))

-- PolicyInformation ::= SEQUENCE { policyIdentifier CertPolicyId, policyQualifiers .. OPTIONAL }
-- (4.2.1.4), without qualifiers
abbrev pub policy_information : List ℕ → List ℕ
policy_information oid = encode 0x30 (encode 0x06 oid)

-- SEQUENCE { issuerDomainPolicy CertPolicyId, subjectDomainPolicy CertPolicyId } (4.2.1.5)
abbrev pub policy_mapping : List ℕ → List ℕ → List ℕ
policy_mapping issuer subject = encode 0x30 (encode 0x06 issuer ++ encode 0x06 subject)

-- what a part puts into a list
abbrev pub item : Items → ExtensionText → List ℕ
-- GeneralNames (4.2.1.6)
item items.AlternativeNames (part.SubjectAltName name) = general_name name
-- permittedSubtrees and excludedSubtrees (4.2.1.10)
item items.PermittedSubtrees (part.PermittedSubtree name) = general_subtree name
item items.ExcludedSubtrees (part.ExcludedSubtree name) = general_subtree name
-- CRLDistributionPoints (4.2.1.13)
item items.DistributionPoints (part.DistributionPoint uri) = distribution_point uri.now
-- certificatePolicies (4.2.1.4)
item items.Policies (part.Policy oid) = policy_information oid.content.now
-- PolicyMappings (4.2.1.5)
item items.PolicyMappings (part.PolicyMapping issuer subject) =
    policy_mapping issuer.content.now subject.content.now
-- requireExplicitPolicy [0] SkipCerts and inhibitPolicyMapping [1] SkipCerts (4.2.1.11)
item items.ExplicitPolicy (part.RequireExplicitPolicy n) = encode 0x80 (serial_content n)
item items.InhibitedMapping (part.InhibitPolicyMapping n) = encode 0x81 (serial_content n)
-- ExtKeyUsageSyntax (4.2.1.12)
item items.KeyPurposes (part.KeyPurpose oid) = encode 0x06 oid.content.now
item other text = []

-- the list: what the parts put into it, in their order
abbrev pub items_of : Items → List ExtensionText → List ℕ
items_of list texts = flat_map (item list) texts
