-- Reading the value of an extension (RFC 5280 4.2, 5.2, 5.3) from its element, whatever the tag, up
-- to the first rule that is broken.
use Rattle.std.specs.Prelude.{ℕ, Bool, List, Result, Ok, ℤ, ok_or}
use Rattle.ts_der.specs.declared.fault.DerFault.TheVariants.{IntegerForm}
use Rattle.ts_der.specs.declared.fault.Fault.{Fault}
use Rattle.ts_der.specs.Answer.{◌>>=◌}
use Rattle.ts_der.specs.Element.{Tlv, number, inside}
use Rattle.ts_der.specs.Reading.{at_element, value_at, next_at, end_at}
use Rattle.ts_der.specs.ObjectIdentifier.{oid_rules}
use Rattle.ts_der.specs.Default.{flag_at}
use Rattle.ts_der.specs.Integer.{integer_rules, small_rules}
use Rattle.ts_der.specs.BitString.{named_bits_rules}
use Rattle.ts_time.specs.Reading.{general_value}
use Rattle.ts_shape.specs.Fields.{oid_at, optional_of}
use Rattle.ts_shape.specs.Items.{of_tag, some_of}
use Rattle.ts_ext.specs.declared.basic_constraints.BasicConstraints.{BasicConstraints}
use Rattle.ts_ext.specs.declared.policy_constraints.PolicyConstraints.{PolicyConstraints}
use Rattle.ts_ext.specs.declared.reason_code.ReasonCode.{ReasonCode}
use Rattle.ts_ext.specs.NamedBits.{named_bits_in}
use Rattle.ts_ext.specs.Policies.{Qualifier, Information, Mapping}
use Rattle.ts_ext.specs.Table.{natural_rules, reason_in}

-- ---- numbers

-- CRLNumber (5.2.3)
unfoldable pub crl_number_of : Tlv → Result (List ℕ) Fault
crl_number_of = value_at natural_rules (λ c. c)

-- BaseCRLNumber (5.2.4)
unfoldable pub base_crl_number_of : Tlv → Result (List ℕ) Fault
base_crl_number_of = value_at integer_rules (λ c. c)

-- INTEGER (0..MAX), at most 4,294,967,295
unfoldable pub small_of : Tlv → Result ℕ Fault
small_of = value_at small_rules number

-- SkipCerts (4.2.1.11, 4.2.1.14)
abbrev pub skip_certs_of : Tlv → Result ℕ Fault
skip_certs_of = small_of

-- ---- reasons and dates

-- CRLReason (5.3.1)
unfoldable pub reason_code_of : Tlv → Result ReasonCode Fault
reason_code_of e = at_element e.at (ok_or (reason_in e.content) IntegerForm)

-- InvalidityDate (5.3.2)
unfoldable pub invalidity_date_of : Tlv → Result ℤ Fault
invalidity_date_of e = at_element e.at (general_value e.content)

-- ---- named bits

-- KeyUsage (4.2.1.3)
unfoldable pub key_usage_of : Tlv → Result (List Bool) Fault
key_usage_of = value_at named_bits_rules named_bits_in

-- ReasonFlags (4.2.1.13)
unfoldable pub reason_flags_of : Tlv → Result (List Bool) Fault
reason_flags_of = value_at named_bits_rules named_bits_in

-- ---- sequences

-- BasicConstraints ::= SEQUENCE { cA, pathLenConstraint } (4.2.1.9)
unfoldable pub basic_constraints_of : Tlv → Result BasicConstraints Fault
basic_constraints_of e = do
  ca ← flag_at 0x01 (inside e)
  length ← optional_of 0x02 small_of ca.1
  done ← end_at length.1
  Ok (record { ca = ca.0; path_len_constraint = length.0 })

-- PolicyConstraints ::= SEQUENCE { requireExplicitPolicy, inhibitPolicyMapping } (4.2.1.11)
unfoldable pub policy_constraints_of : Tlv → Result PolicyConstraints Fault
policy_constraints_of e = do
  explicit ← optional_of 0x80 skip_certs_of (inside e)
  mapping ← optional_of 0x81 skip_certs_of explicit.1
  done ← end_at mapping.1
  Ok (record { require_explicit_policy = explicit.0; inhibit_policy_mapping = mapping.0 })

-- ---- lists

-- PolicyQualifierInfo ::= SEQUENCE { policyQualifierId, qualifier } (4.2.1.4)
unfoldable pub policy_qualifier_of : Tlv → Result Qualifier Fault
policy_qualifier_of e = do
  id ← oid_at (inside e)
  qualifier ← next_at id.1
  done ← end_at qualifier.1
  Ok (record { policyQualifierId = id.0; qualifier = qualifier.0.whole })

abbrev pub policy_qualifier_in : Tlv → Result Qualifier Fault
policy_qualifier_in = of_tag 0x30 policy_qualifier_of

-- PolicyInformation ::= SEQUENCE { policyIdentifier, policyQualifiers } (4.2.1.4)
unfoldable pub policy_information_of : Tlv → Result Information Fault
policy_information_of e = do
  id ← oid_at (inside e)
  qualifiers ← optional_of 0x30 (some_of policy_qualifier_in) id.1
  done ← end_at qualifiers.1
  Ok (record { policyIdentifier = id.0; policyQualifiers = qualifiers.0 })

abbrev pub policy_information_in : Tlv → Result Information Fault
policy_information_in = of_tag 0x30 policy_information_of

-- CertificatePolicies (4.2.1.4)
abbrev pub certificate_policies_of : Tlv → Result (List Information) Fault
certificate_policies_of = some_of policy_information_in

-- a member of PolicyMappings ::= SEQUENCE { issuerDomainPolicy, subjectDomainPolicy } (4.2.1.5)
unfoldable pub policy_mapping_of : Tlv → Result Mapping Fault
policy_mapping_of e = do
  issuer ← oid_at (inside e)
  subject ← oid_at issuer.1
  done ← end_at subject.1
  Ok (record { issuerDomainPolicy = issuer.0; subjectDomainPolicy = subject.0 })

abbrev pub policy_mapping_in : Tlv → Result Mapping Fault
policy_mapping_in = of_tag 0x30 policy_mapping_of

-- PolicyMappings (4.2.1.5)
abbrev pub policy_mappings_of : Tlv → Result (List Mapping) Fault
policy_mappings_of = some_of policy_mapping_in

-- KeyPurposeId (4.2.1.12)
abbrev pub key_purpose_in : Tlv → Result (List ℕ) Fault
key_purpose_in = of_tag 0x06 (value_at oid_rules (λ c. c))

-- ExtKeyUsageSyntax (4.2.1.12)
abbrev pub ext_key_usage_of : Tlv → Result (List (List ℕ)) Fault
ext_key_usage_of = some_of key_purpose_in
