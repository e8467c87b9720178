-- The value of an extension by its object identifier (RFC 5280 4.2, 5.2, 5.3).
use Rattle.std.specs.Prelude.{◌≡◌, ℕ, Bool, ℤ, List, Option, Some, None, Result, Ok}
use Rattle.ts_der.specs.declared.fault.Fault.{Fault}
use Rattle.ts_der.specs.Answer.{◌>>=◌}
use Rattle.ts_der.specs.Element.{Tlv, inside}
use Rattle.ts_shape.specs.declared.fault.CertFault.{CertFault}
use Rattle.ts_shape.specs.Fields.{Within}
use Rattle.ts_shape.specs.Items.{alone, of_tag}
use Rattle.ts_shape.specs.Shape.{Row, Shape, ContentRules, tagged, no_other, plain, nothing, ◌then◌}
use Rattle.ts_shape.specs.Shape.{no_rules, judge}
use Rattle.ts_ext.specs.declared.known.Known.{Known}
use Rattle.ts_ext.specs.declared.known.Known.TheVariants as extension
use Rattle.ts_ext.specs.declared.basic_constraints.BasicConstraints.{BasicConstraints}
use Rattle.ts_ext.specs.declared.policy_constraints.PolicyConstraints.{PolicyConstraints}
use Rattle.ts_ext.specs.declared.reason_code.ReasonCode.{ReasonCode}
use Rattle.ts_name.specs.General.{GeneralName}
use Rattle.ts_ext.specs.Policies.{Information, Mapping}
use Rattle.ts_ext.specs.Encoding.{IsKeyUsage, IsBasicConstraints, IsCrlNumber, IsReasonCode}
use Rattle.ts_ext.specs.Encoding.{IsInvalidityDate, IsBaseCrlNumber, AreCertificatePolicies}
use Rattle.ts_ext.specs.Encoding.{ArePolicyMappings, IsPolicyConstraints, AreKeyPurposes}
use Rattle.ts_ext.specs.Encoding.{IsSkipCerts}
use Rattle.ts_ext.specs.Reading.{key_usage_of, basic_constraints_of, crl_number_of, reason_code_of}
use Rattle.ts_ext.specs.Reading.{invalidity_date_of, base_crl_number_of, certificate_policies_of}
use Rattle.ts_ext.specs.Reading.{policy_mappings_of, policy_constraints_of, ext_key_usage_of}
use Rattle.ts_ext.specs.Reading.{skip_certs_of}
use Rattle.ts_ext.specs.Table.{key_usage_rules, basic_constraints_fields, crl_number_rules}
use Rattle.ts_ext.specs.Table.{reason_code_rules, invalidity_date_rules, base_crl_number_rules}
use Rattle.ts_ext.specs.Table.{certificate_policies, policy_mappings, policy_constraints_fields}
use Rattle.ts_ext.specs.Table.{ext_key_usage, skip_certs_rules, list_rules}
use Rattle.ts_ext.specs.GeneralNames.{AreGeneralNames, general_names_of, general_names_items}
use Rattle.ts_ext.specs.Points.{Point, ListScope, ArePoints, points_of, points_items}
use Rattle.ts_ext.specs.Points.{IsIssuingPoint, issuing_point_of, issuing_point_fields}
use Rattle.ts_ext.specs.AuthorityKey.{AuthorityKey, AreOctetsOf, content_octets_of, IsAuthorityKey}
use Rattle.ts_ext.specs.AuthorityKey.{authority_key_of, authority_key_fields}
use Rattle.ts_ext.specs.NameConstraints.{Constraints, AreConstraints, name_constraints_of}
use Rattle.ts_ext.specs.NameConstraints.{name_constraints_fields}

-- the value of an extension; of one that is not read here its octets
pub data ExtValue : Type 0 where
  subjectKeyIdentifier : List ℕ → ExtValue
  keyUsage : List Bool → ExtValue
  subjectAltName : List GeneralName → ExtValue
  issuerAltName : List GeneralName → ExtValue
  basicConstraints : BasicConstraints → ExtValue
  cRLNumber : List ℕ → ExtValue
  reasonCode : ReasonCode → ExtValue
  invalidityDate : ℤ → ExtValue
  deltaCRLIndicator : List ℕ → ExtValue
  issuingDistributionPoint : ListScope → ExtValue
  certificateIssuer : List GeneralName → ExtValue
  nameConstraints : Constraints → ExtValue
  cRLDistributionPoints : List Point → ExtValue
  certificatePolicies : List Information → ExtValue
  policyMappings : List Mapping → ExtValue
  authorityKeyIdentifier : AuthorityKey → ExtValue
  policyConstraints : PolicyConstraints → ExtValue
  extKeyUsage : List (List ℕ) → ExtValue
  freshestCRL : List Point → ExtValue
  inhibitAnyPolicy : ℕ → ExtValue
  unknown : List ℕ → ExtValue

-- ---- the table

-- the value of an extension: the tag of its element, what is within it, and the rules of its
-- content as a whole
pub record Layout : Type 0 where
  pub tag : ℕ
  pub shape : Shape
  pub rules : ContentRules

abbrev pub layout : ℕ → Shape → ContentRules → Layout
layout tag shape rules = record { tag = tag; shape = shape; rules = rules }

abbrev pub layout_of : Known → Layout
-- subjectKeyIdentifier (4.2.1.2)
layout_of extension.SubjectKeyIdentifier = layout 0x04 plain no_rules
-- keyUsage (4.2.1.3)
layout_of extension.KeyUsage = layout 0x03 plain key_usage_rules
-- subjectAltName (4.2.1.6)
layout_of extension.SubjectAltName = layout 0x30 general_names_items list_rules
-- issuerAltName (4.2.1.7, 5.2.2)
layout_of extension.IssuerAltName = layout 0x30 general_names_items list_rules
-- basicConstraints (4.2.1.9)
layout_of extension.BasicConstraints = layout 0x30 basic_constraints_fields no_rules
-- cRLNumber (5.2.3)
layout_of extension.CrlNumber = layout 0x02 plain crl_number_rules
-- reasonCode (5.3.1)
layout_of extension.ReasonCode = layout 0x0A plain reason_code_rules
-- invalidityDate (5.3.2)
layout_of extension.InvalidityDate = layout 0x18 plain invalidity_date_rules
-- deltaCRLIndicator (5.2.4)
layout_of extension.DeltaCrlIndicator = layout 0x02 plain base_crl_number_rules
-- issuingDistributionPoint (5.2.5)
layout_of extension.IssuingDistributionPoint = layout 0x30 issuing_point_fields no_rules
-- certificateIssuer (5.3.3)
layout_of extension.CertificateIssuer = layout 0x30 general_names_items list_rules
-- nameConstraints (4.2.1.10)
layout_of extension.NameConstraints = layout 0x30 name_constraints_fields no_rules
-- cRLDistributionPoints (4.2.1.13)
layout_of extension.CrlDistributionPoints = layout 0x30 points_items list_rules
-- certificatePolicies (4.2.1.4)
layout_of extension.CertificatePolicies = layout 0x30 certificate_policies list_rules
-- policyMappings (4.2.1.5)
layout_of extension.PolicyMappings = layout 0x30 policy_mappings list_rules
-- authorityKeyIdentifier (4.2.1.1, 5.2.1)
layout_of extension.AuthorityKeyIdentifier = layout 0x30 authority_key_fields no_rules
-- policyConstraints (4.2.1.11)
layout_of extension.PolicyConstraints = layout 0x30 policy_constraints_fields no_rules
-- extKeyUsage (4.2.1.12)
layout_of extension.ExtendedKeyUsage = layout 0x30 ext_key_usage list_rules
-- freshestCRL (4.2.1.15, 5.2.6)
layout_of extension.FreshestCrl = layout 0x30 points_items list_rules
-- inhibitAnyPolicy (4.2.1.14)
layout_of extension.InhibitAnyPolicy = layout 0x02 plain skip_certs_rules

abbrev pub value_row : Known → Row
value_row known = tagged (layout_of known).tag (layout_of known).shape
    (layout_of known).rules no_other

-- ---- encoding

-- octets that encode a value, in the form of one extension
abbrev pub As : {A : Type 0} → (A → ExtValue) → (List ℕ → A → Type 0) → List ℕ → ExtValue → Type 0
As {A} form Encodes octets value = (x : A) × (value ≡ form x) × Encodes octets x

-- the content of an element that encodes the value of an extension
abbrev pub IsContent : Known → List ℕ → ExtValue → Type 0
IsContent extension.SubjectKeyIdentifier = As (λ x. subjectKeyIdentifier x) AreOctetsOf
IsContent extension.KeyUsage = As (λ x. keyUsage x) IsKeyUsage
IsContent extension.SubjectAltName = As (λ x. subjectAltName x) AreGeneralNames
IsContent extension.IssuerAltName = As (λ x. issuerAltName x) AreGeneralNames
IsContent extension.BasicConstraints = As (λ x. basicConstraints x) IsBasicConstraints
IsContent extension.CrlNumber = As (λ x. cRLNumber x) IsCrlNumber
IsContent extension.ReasonCode = As (λ x. reasonCode x) IsReasonCode
IsContent extension.InvalidityDate = As (λ x. invalidityDate x) IsInvalidityDate
IsContent extension.DeltaCrlIndicator = As (λ x. deltaCRLIndicator x) IsBaseCrlNumber
IsContent extension.IssuingDistributionPoint = As (λ x. issuingDistributionPoint x) IsIssuingPoint
IsContent extension.CertificateIssuer = As (λ x. certificateIssuer x) AreGeneralNames
IsContent extension.NameConstraints = As (λ x. nameConstraints x) AreConstraints
IsContent extension.CrlDistributionPoints = As (λ x. cRLDistributionPoints x) ArePoints
IsContent extension.CertificatePolicies = As (λ x. certificatePolicies x) AreCertificatePolicies
IsContent extension.PolicyMappings = As (λ x. policyMappings x) ArePolicyMappings
IsContent extension.AuthorityKeyIdentifier = As (λ x. authorityKeyIdentifier x) IsAuthorityKey
IsContent extension.PolicyConstraints = As (λ x. policyConstraints x) IsPolicyConstraints
IsContent extension.ExtendedKeyUsage = As (λ x. extKeyUsage x) AreKeyPurposes
IsContent extension.FreshestCrl = As (λ x. freshestCRL x) ArePoints
IsContent extension.InhibitAnyPolicy = As (λ x. inhibitAnyPolicy x) IsSkipCerts

-- octets that are such an element
abbrev pub IsValue : Known → List ℕ → ExtValue → Type 0
IsValue known = Within (layout_of known).tag (IsContent known)

-- the content of an OCTET STRING that holds the value of an extension, or of one that is not read
-- here
abbrev pub IsExt : Option Known → List ℕ → ExtValue → Type 0
IsExt (Some known) content value = IsValue known content value
IsExt None content value = value ≡ unknown content

-- ---- reading

-- what an element is read as, in the form of one extension
abbrev pub read_as : {A : Type 0} → (Tlv → Result A Fault) → (A → ExtValue) → Tlv
    → Result ExtValue Fault
read_as value form e = value e >>= λ x. Ok (form x)

-- what an element is read as, as the value of an extension, whatever its tag is
abbrev pub content_of : Known → Tlv → Result ExtValue Fault
content_of extension.SubjectKeyIdentifier = read_as content_octets_of (λ x. subjectKeyIdentifier x)
content_of extension.KeyUsage = read_as key_usage_of (λ x. keyUsage x)
content_of extension.SubjectAltName = read_as general_names_of (λ x. subjectAltName x)
content_of extension.IssuerAltName = read_as general_names_of (λ x. issuerAltName x)
content_of extension.BasicConstraints = read_as basic_constraints_of (λ x. basicConstraints x)
content_of extension.CrlNumber = read_as crl_number_of (λ x. cRLNumber x)
content_of extension.ReasonCode = read_as reason_code_of (λ x. reasonCode x)
content_of extension.InvalidityDate = read_as invalidity_date_of (λ x. invalidityDate x)
content_of extension.DeltaCrlIndicator = read_as base_crl_number_of (λ x. deltaCRLIndicator x)
content_of extension.IssuingDistributionPoint =
    read_as issuing_point_of (λ x. issuingDistributionPoint x)
content_of extension.CertificateIssuer = read_as general_names_of (λ x. certificateIssuer x)
content_of extension.NameConstraints = read_as name_constraints_of (λ x. nameConstraints x)
content_of extension.CrlDistributionPoints = read_as points_of (λ x. cRLDistributionPoints x)
content_of extension.CertificatePolicies =
    read_as certificate_policies_of (λ x. certificatePolicies x)
content_of extension.PolicyMappings = read_as policy_mappings_of (λ x. policyMappings x)
content_of extension.AuthorityKeyIdentifier =
    read_as authority_key_of (λ x. authorityKeyIdentifier x)
content_of extension.PolicyConstraints = read_as policy_constraints_of (λ x. policyConstraints x)
content_of extension.ExtendedKeyUsage = read_as ext_key_usage_of (λ x. extKeyUsage x)
content_of extension.FreshestCrl = read_as points_of (λ x. freshestCRL x)
content_of extension.InhibitAnyPolicy = read_as skip_certs_of (λ x. inhibitAnyPolicy x)

abbrev pub value_of : Known → Tlv → Result ExtValue Fault
value_of known = of_tag (layout_of known).tag (content_of known)

-- the value within an OCTET STRING, and nothing after it; of an extension that is not read here its
-- octets
unfoldable pub ext_of : Option Known → Tlv → Result ExtValue Fault
ext_of (Some known) e = alone (value_of known) e
ext_of None e = Ok (unknown e.content)

-- ---- the first rule that is broken

-- the first rule that the content of an OCTET STRING breaks as the value of an extension
abbrev pub ext_fault : Option Known → Tlv → Option CertFault
ext_fault (Some known) e = judge (value_row known then nothing) (inside e)
ext_fault None e = None
