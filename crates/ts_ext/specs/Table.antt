-- The rules of the values of extensions (RFC 5280 4.2, 5.2, 5.3), in the order in which they count.
use Rattle.std.specs.Prelude.{ℕ, ◌==◌, not, List, [], ◌∷◌, Option, None, is_some}
use Rattle.std.specs.List.{find}
use Rattle.ts_der.specs.declared.fault.DerFault.TheVariants.{IntegerForm, TimeForm, DefaultEncoded}
use Rattle.ts_der.specs.Rules.{Rule, rule}
use Rattle.ts_der.specs.Integer.{is_shortest, is_negative, integer_rules, small_rules}
use Rattle.ts_der.specs.Boolean.{boolean_rules, boolean_value}
use Rattle.ts_der.specs.BitString.{named_bits_rules}
use Rattle.ts_time.specs.Reading.{generalized_time_in}
use Rattle.ts_shape.specs.declared.fault.CertRule.TheVariants.{Der}
use Rattle.ts_shape.specs.Items.{some_rules}
use Rattle.ts_shape.specs.Shape.{ContentRules, Row, tagged, no_other, any, optional, Shape, items}
use Rattle.ts_shape.specs.Shape.{nothing, ◌then◌, ◌or_else◌, der_rules, one_rule, primitive}
use Rattle.ts_shape.specs.Shape.{sequence}
use Rattle.ts_shape.specs.Rows.{object_identifier}
use Rattle.ts_ext.specs.declared.reason_code.ReasonCode.{ReasonCode}
use Rattle.ts_ext.specs.declared.reason_code.ReasonCode.TheVariants.{Unspecified, KeyCompromise}
use Rattle.ts_ext.specs.declared.reason_code.ReasonCode.TheVariants.{CaCompromise}
use Rattle.ts_ext.specs.declared.reason_code.ReasonCode.TheVariants.{AffiliationChanged, Superseded}
use Rattle.ts_ext.specs.declared.reason_code.ReasonCode.TheVariants.{CessationOfOperation}
use Rattle.ts_ext.specs.declared.reason_code.ReasonCode.TheVariants.{CertificateHold, RemoveFromCrl}
use Rattle.ts_ext.specs.declared.reason_code.ReasonCode.TheVariants.{PrivilegeWithdrawn}
use Rattle.ts_ext.specs.declared.reason_code.ReasonCode.TheVariants.{AaCompromise}
use Rattle.ts_ext.specs.Encoding.{reason_number}

-- ---- numbers

-- INTEGER (0..MAX)
abbrev pub natural_rules : List Rule
natural_rules = rule IntegerForm (λ c. not (is_shortest c)) ∷ rule IntegerForm (λ c. is_negative c)
    ∷ []

-- CRLNumber ::= INTEGER (0..MAX) (5.2.3)
abbrev pub crl_number_rules : ContentRules
crl_number_rules = der_rules natural_rules

-- BaseCRLNumber, an INTEGER of any sign (5.2.4)
abbrev pub base_crl_number_rules : ContentRules
base_crl_number_rules = der_rules integer_rules

-- INTEGER (0..MAX), at most 4,294,967,295 in this profile
abbrev pub small_integer_rules : ContentRules
small_integer_rules = der_rules small_rules

-- SkipCerts ::= INTEGER (0..MAX) (4.2.1.11, 4.2.1.14)
abbrev pub skip_certs_rules : ContentRules
skip_certs_rules = small_integer_rules

-- ---- reasons and dates

-- the reasons of CRLReason (5.3.1)
abbrev pub reasons : List ReasonCode
reasons =
    Unspecified ∷ KeyCompromise ∷ CaCompromise ∷ AffiliationChanged ∷ Superseded
    ∷ CessationOfOperation ∷ CertificateHold ∷ RemoveFromCrl ∷ PrivilegeWithdrawn ∷ AaCompromise
    ∷ []

-- the reason that has this number, if one has it
unfoldable pub reason_of_number : ℕ → Option ReasonCode
reason_of_number n = find (λ r. reason_number r == n) reasons

-- the reason that a content is, if it is one
abbrev pub reason_in : List ℕ → Option ReasonCode
reason_in (octet ∷ []) = reason_of_number octet
reason_in content = None

-- CRLReason ::= ENUMERATED (5.3.1)
abbrev pub reason_code_rules : ContentRules
reason_code_rules = one_rule (Der IntegerForm) (λ c. not (is_some (reason_in c)))

-- InvalidityDate ::= GeneralizedTime (5.3.2)
abbrev pub invalidity_date_rules : ContentRules
invalidity_date_rules = one_rule (Der TimeForm) (λ c. not (is_some (generalized_time_in c)))

-- ---- named bits

-- KeyUsage ::= BIT STRING (4.2.1.3)
abbrev pub key_usage_rules : ContentRules
key_usage_rules = der_rules named_bits_rules

-- ReasonFlags ::= BIT STRING (4.2.1.13)
abbrev pub reason_flags_rules : ContentRules
reason_flags_rules = der_rules named_bits_rules

-- ---- sequences

-- a BOOLEAN, and then not the default FALSE, which is not encoded (X.690 11.5)
abbrev pub flag_rules : ContentRules
flag_rules content = der_rules boolean_rules content or_else one_rule (Der DefaultEncoded)
    (λ c. not (boolean_value c)) content

-- BOOLEAN DEFAULT FALSE of this tag
abbrev pub flag : ℕ → Row
flag tag = primitive tag flag_rules

-- BasicConstraints ::= SEQUENCE { cA BOOLEAN DEFAULT FALSE, pathLenConstraint INTEGER (0..MAX)
-- OPTIONAL } (4.2.1.9)
abbrev pub basic_constraints_fields : Shape
basic_constraints_fields = optional (flag 0x01) then optional (primitive 0x02 small_integer_rules)
    then nothing

-- PolicyConstraints ::= SEQUENCE { requireExplicitPolicy [0] SkipCerts OPTIONAL,
-- inhibitPolicyMapping [1] SkipCerts OPTIONAL } (4.2.1.11)
abbrev pub policy_constraints_fields : Shape
policy_constraints_fields = optional (primitive 0x80 skip_certs_rules)
    then optional (primitive 0x81 skip_certs_rules) then nothing

-- ---- lists

-- SIZE (1..MAX)
abbrev pub list_rules : ContentRules
list_rules = der_rules some_rules

-- PolicyQualifierInfo ::= SEQUENCE { policyQualifierId OBJECT IDENTIFIER, qualifier ANY DEFINED BY
-- policyQualifierId } (4.2.1.4)
abbrev pub policy_qualifier_info : Row
policy_qualifier_info = sequence (object_identifier then any then nothing)

-- SEQUENCE SIZE (1..MAX) OF PolicyQualifierInfo (4.2.1.4)
abbrev pub policy_qualifiers : Row
policy_qualifiers = tagged 0x30 (items policy_qualifier_info) list_rules no_other

-- PolicyInformation ::= SEQUENCE { policyIdentifier OBJECT IDENTIFIER, policyQualifiers OPTIONAL }
-- (4.2.1.4)
abbrev pub policy_information : Row
policy_information = sequence (object_identifier then optional policy_qualifiers then nothing)

-- CertificatePolicies ::= SEQUENCE SIZE (1..MAX) OF PolicyInformation (4.2.1.4)
abbrev pub certificate_policies : Shape
certificate_policies = items policy_information

-- SEQUENCE { issuerDomainPolicy OBJECT IDENTIFIER, subjectDomainPolicy OBJECT IDENTIFIER }
-- (4.2.1.5)
abbrev pub policy_mapping : Row
policy_mapping = sequence (object_identifier then object_identifier then nothing)

-- PolicyMappings ::= SEQUENCE SIZE (1..MAX) OF (4.2.1.5)
abbrev pub policy_mappings : Shape
policy_mappings = items policy_mapping

-- ExtKeyUsageSyntax ::= SEQUENCE SIZE (1..MAX) OF KeyPurposeId, KeyPurposeId ::= OBJECT IDENTIFIER
-- (4.2.1.12)
abbrev pub ext_key_usage : Shape
ext_key_usage = items object_identifier
