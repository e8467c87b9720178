-- The one encoding of each value of an extension (RFC 5280 4.2, 5.2, 5.3), by the content of its
-- element.
use Rattle.std.specs.Prelude.{◌≡◌, ℕ, ◌<◌, ◌^◌, Bool, true, false, List, [], ◌∷◌, ◌++◌, ℤ}
use Rattle.ts_der.specs.Element.{number, encode}
use Rattle.ts_der.specs.Boolean.{boolean_content}
use Rattle.ts_der.specs.Integer.{is_shortest, is_negative}
use Rattle.ts_shape.specs.Fields.{Within, IfAny, IsAny, IsOid, IsInteger}
use Rattle.ts_shape.specs.Items.{AreSome}
use Rattle.ts_time.specs.Text.{IsGeneral}
use Rattle.ts_ext.specs.declared.reason_code.ReasonCode.{ReasonCode}
use Rattle.ts_ext.specs.declared.reason_code.ReasonCode.TheVariants.{Unspecified, KeyCompromise}
use Rattle.ts_ext.specs.declared.reason_code.ReasonCode.TheVariants.{CaCompromise}
use Rattle.ts_ext.specs.declared.reason_code.ReasonCode.TheVariants.{AffiliationChanged, Superseded}
use Rattle.ts_ext.specs.declared.reason_code.ReasonCode.TheVariants.{CessationOfOperation}
use Rattle.ts_ext.specs.declared.reason_code.ReasonCode.TheVariants.{CertificateHold, RemoveFromCrl}
use Rattle.ts_ext.specs.declared.reason_code.ReasonCode.TheVariants.{PrivilegeWithdrawn}
use Rattle.ts_ext.specs.declared.reason_code.ReasonCode.TheVariants.{AaCompromise}
use Rattle.ts_ext.specs.declared.basic_constraints.BasicConstraints.{BasicConstraints}
use Rattle.ts_ext.specs.declared.policy_constraints.PolicyConstraints.{PolicyConstraints}
use Rattle.ts_ext.specs.NamedBits.{IsNamedBits}
use Rattle.ts_ext.specs.Policies.{Qualifier, Information, Mapping}

-- ---- numbers

-- INTEGER (0..MAX), by its content
pub record IsNatural (content : List ℕ) (octets : List ℕ) : Type 0 where
  pub whole : content ≡ octets
  pub shortest : is_shortest octets ≡ true
  pub natural : is_negative octets ≡ false

-- INTEGER (0..MAX), at most 4,294,967,295 in this profile, by its number
pub record IsSmall (content : List ℕ) (n : ℕ) : Type 0 where
  pub shortest : is_shortest content ≡ true
  pub natural : is_negative content ≡ false
  pub value : number content ≡ n
  pub limit : n < 2 ^ 32

-- CRLNumber ::= INTEGER (0..MAX) (5.2.3)
abbrev pub IsCrlNumber : List ℕ → List ℕ → Type 0
IsCrlNumber = IsNatural

-- BaseCRLNumber, an INTEGER of any sign (5.2.4)
abbrev pub IsBaseCrlNumber : List ℕ → List ℕ → Type 0
IsBaseCrlNumber = IsInteger

-- SkipCerts ::= INTEGER (0..MAX) (4.2.1.11, 4.2.1.14)
abbrev pub IsSkipCerts : List ℕ → ℕ → Type 0
IsSkipCerts = IsSmall

-- ---- reasons and dates

-- the numbers of CRLReason ::= ENUMERATED (5.3.1); 7 is not used
abbrev pub reason_number : ReasonCode → ℕ
reason_number Unspecified = 0
reason_number KeyCompromise = 1
reason_number CaCompromise = 2
reason_number AffiliationChanged = 3
reason_number Superseded = 4
reason_number CessationOfOperation = 5
reason_number CertificateHold = 6
reason_number RemoveFromCrl = 8
reason_number PrivilegeWithdrawn = 9
reason_number AaCompromise = 10

-- CRLReason (5.3.1): its number in one octet
abbrev pub IsReasonCode : List ℕ → ReasonCode → Type 0
IsReasonCode content reason = content ≡ reason_number reason ∷ []

-- InvalidityDate ::= GeneralizedTime (5.3.2), by its moment
abbrev pub IsInvalidityDate : List ℕ → ℤ → Type 0
IsInvalidityDate = IsGeneral

-- ---- named bits

-- KeyUsage ::= BIT STRING (4.2.1.3), of which keyCertSign is bit 5 and cRLSign is bit 6
abbrev pub IsKeyUsage : List ℕ → List Bool → Type 0
IsKeyUsage = IsNamedBits

-- ReasonFlags ::= BIT STRING (4.2.1.13)
abbrev pub AreReasonFlags : List ℕ → List Bool → Type 0
AreReasonFlags = IsNamedBits

-- ---- sequences

-- BOOLEAN DEFAULT FALSE of this tag: the default is absent (X.690 11.5)
abbrev pub IfTrue : ℕ → List ℕ → Bool → Type 0
IfTrue tag octets false = octets ≡ []
IfTrue tag octets true = octets ≡ encode tag (boolean_content true)

-- BasicConstraints ::= SEQUENCE { cA BOOLEAN DEFAULT FALSE, pathLenConstraint INTEGER (0..MAX)
-- OPTIONAL } (4.2.1.9)
pub record IsBasicConstraints (content : List ℕ) (b : BasicConstraints) : Type 0 where
  pub authority : List ℕ
  pub length : List ℕ
  pub cA : IfTrue 0x01 authority b.ca
  pub pathLenConstraint : IfAny 0x02 IsSmall length b.path_len_constraint
  pub fields : content ≡ authority ++ length

-- PolicyConstraints ::= SEQUENCE { requireExplicitPolicy [0] SkipCerts OPTIONAL,
-- inhibitPolicyMapping [1] SkipCerts OPTIONAL } (4.2.1.11)
pub record IsPolicyConstraints (content : List ℕ) (p : PolicyConstraints) : Type 0 where
  pub explicit : List ℕ
  pub mapping : List ℕ
  pub requireExplicitPolicy : IfAny 0x80 IsSkipCerts explicit p.require_explicit_policy
  pub inhibitPolicyMapping : IfAny 0x81 IsSkipCerts mapping p.inhibit_policy_mapping
  pub fields : content ≡ explicit ++ mapping

-- ---- lists

-- PolicyQualifierInfo ::= SEQUENCE { policyQualifierId OBJECT IDENTIFIER, qualifier ANY DEFINED BY
-- policyQualifierId } (4.2.1.4)
pub record IsPolicyQualifier (content : List ℕ) (q : Qualifier) : Type 0 where
  pub id : List ℕ
  pub policyQualifierId : Within 0x06 IsOid id q.policyQualifierId
  pub qualifier : IsAny q.qualifier
  pub fields : content ≡ id ++ q.qualifier

-- SEQUENCE SIZE (1..MAX) OF PolicyQualifierInfo (4.2.1.4)
abbrev pub ArePolicyQualifiers : List ℕ → List Qualifier → Type 0
ArePolicyQualifiers = AreSome (Within 0x30 IsPolicyQualifier)

-- PolicyInformation ::= SEQUENCE { policyIdentifier OBJECT IDENTIFIER, policyQualifiers OPTIONAL }
-- (4.2.1.4)
pub record IsPolicyInformation (content : List ℕ) (p : Information) : Type 0 where
  pub id : List ℕ
  pub qualifiers : List ℕ
  pub policyIdentifier : Within 0x06 IsOid id p.policyIdentifier
  pub policyQualifiers : IfAny 0x30 ArePolicyQualifiers qualifiers p.policyQualifiers
  pub fields : content ≡ id ++ qualifiers

-- CertificatePolicies ::= SEQUENCE SIZE (1..MAX) OF PolicyInformation (4.2.1.4)
abbrev pub AreCertificatePolicies : List ℕ → List Information → Type 0
AreCertificatePolicies = AreSome (Within 0x30 IsPolicyInformation)

-- SEQUENCE { issuerDomainPolicy OBJECT IDENTIFIER, subjectDomainPolicy OBJECT IDENTIFIER }
-- (4.2.1.5)
pub record IsPolicyMapping (content : List ℕ) (m : Mapping) : Type 0 where
  pub issuer : List ℕ
  pub subject : List ℕ
  pub issuerDomainPolicy : Within 0x06 IsOid issuer m.issuerDomainPolicy
  pub subjectDomainPolicy : Within 0x06 IsOid subject m.subjectDomainPolicy
  pub fields : content ≡ issuer ++ subject

-- PolicyMappings ::= SEQUENCE SIZE (1..MAX) OF (4.2.1.5)
abbrev pub ArePolicyMappings : List ℕ → List Mapping → Type 0
ArePolicyMappings = AreSome (Within 0x30 IsPolicyMapping)

-- ExtKeyUsageSyntax ::= SEQUENCE SIZE (1..MAX) OF KeyPurposeId, KeyPurposeId ::= OBJECT IDENTIFIER
-- (4.2.1.12)
abbrev pub AreKeyPurposes : List ℕ → List (List ℕ) → Type 0
AreKeyPurposes = AreSome (Within 0x06 IsOid)
