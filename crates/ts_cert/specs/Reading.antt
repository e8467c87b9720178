-- Reading a certificate (RFC 5280 4.1) from front to back, up to the first rule that is broken.
-- Each function reads one SEQUENCE of the standard, field by field in its order.
use Rattle.std.specs.Prelude.{ℕ, nat_lt, List, length, Option, Some, None, option_map, map, Result}
use Rattle.std.specs.Prelude.{Ok, Err, if◌then◌else◌}
use Rattle.std.specs.Str.{bytes_eq}
use Rattle.ts_der.specs.declared.fault.DerFault.TheVariants.{TooLarge}
use Rattle.ts_der.specs.declared.fault.Fault.{Fault}
use Rattle.ts_der.specs.Answer.{◌>>=◌}
use Rattle.ts_der.specs.BitString.{bits_rules, bit_parts}
use Rattle.ts_der.specs.Element.{Place, Tlv, inside}
use Rattle.ts_der.specs.Reading.{element_at, value_at, end_at}
use Rattle.ts_shape.specs.declared.fault.CertRule.TheVariants.{Der, AlgorithmMismatch}
use Rattle.ts_shape.specs.declared.fault.CertFault.{CertFault}
use Rattle.ts_shape.specs.Fault.{der, breaks}
use Rattle.ts_shape.specs.Fields.{within, integer_at, bits_at, optional_of}
use Rattle.ts_name.specs.Names.{name_at}
use Rattle.ts_extensions.specs.Extension.{unlocated, explicit_all_located_of}
use Rattle.ts_field.specs.Algorithm.{algorithm_of, algorithm_at}
use Rattle.ts_field.specs.Time.{time_at}
use Rattle.ts_cert.specs.declared.validity.Validity.{Validity}
use Rattle.ts_cert.specs.Certificate.{KeyInfo, Certificate}
use Rattle.ts_cert.specs.Rules.{OptionalFields, LocatedTbs, extensions_fault}
use Rattle.ts_cert.specs.Version.{version_at}

-- Validity ::= SEQUENCE { notBefore Time, notAfter Time } (4.1.2.5)
unfoldable pub validity_of : Tlv → Result Validity Fault
validity_of e = do
  before ← time_at (inside e)
  after ← time_at before.1
  done ← end_at after.1
  Ok (record { not_before = before.0; not_after = after.0 })

unfoldable pub validity_at : Place → Result (Validity × Place) Fault
validity_at = within 0x30 validity_of

-- SubjectPublicKeyInfo ::= SEQUENCE { algorithm AlgorithmIdentifier, subjectPublicKey BIT STRING }
unfoldable pub key_of : Tlv → Result KeyInfo Fault
key_of e = do
  algorithm ← algorithm_at (inside e)
  key ← bits_at algorithm.1
  done ← end_at key.1
  Ok (record { algorithm = algorithm.0; subjectPublicKey = key.0 })

unfoldable pub key_at : Place → Result (KeyInfo × Place) Fault
key_at = within 0x30 key_of

-- UniqueIdentifier ::= BIT STRING (4.1.2.8)
unfoldable pub unique_identifier_of : Tlv → Result (ℕ × List ℕ) Fault
unique_identifier_of = value_at bits_rules bit_parts

-- issuerUniqueID [1] IMPLICIT UniqueIdentifier OPTIONAL, subjectUniqueID [2] IMPLICIT
-- UniqueIdentifier OPTIONAL, extensions [3] EXPLICIT Extensions OPTIONAL, and no more
unfoldable pub optional_fields_at : Place → Result OptionalFields Fault
optional_fields_at here = do
  issuer ← optional_of 0x81 unique_identifier_of here
  subject ← optional_of 0x82 unique_identifier_of issuer.1
  extensions ← optional_of 0xA3 explicit_all_located_of subject.1
  done ← end_at extensions.1
  Ok (record {
    issuerUniqueID = issuer.0;
    subjectUniqueID = subject.0;
    extensions = extensions.0;
    issuerUniqueID_at = here.at;
    subjectUniqueID_at = issuer.1.at;
    extensions_at = subject.1.at;
  })

-- TBSCertificate ::= SEQUENCE { version, serialNumber, signature, issuer, validity, subject,
-- subjectPublicKeyInfo, issuerUniqueID, subjectUniqueID, extensions }
unfoldable pub tbs_of : Tlv → Result LocatedTbs CertFault
tbs_of e = do
  version ← version_at (inside e)
  serial ← der (integer_at version.1)
  signature ← der (algorithm_at serial.1)
  issuer ← der (name_at signature.1)
  validity ← der (validity_at issuer.1)
  subject ← der (name_at validity.1)
  key ← der (key_at subject.1)
  optional_fields ← der (optional_fields_at key.1)
  Ok (record {
    fields = record {
      version = version.0;
      serialNumber = serial.0;
      signature = signature.0;
      issuer = issuer.0;
      validity = validity.0;
      subject = subject.0;
      subjectPublicKeyInfo = key.0;
      issuerUniqueID = optional_fields.issuerUniqueID;
      subjectUniqueID = optional_fields.subjectUniqueID;
      extensions = option_map (map unlocated) optional_fields.extensions;
    };
    optional_fields = optional_fields;
  })

-- a certificate whose algorithm identifiers have not been compared, with the place of the outer
-- one, and the fields that version 1 does not have where they are
pub record UncheckedCertificate : Type 0 where
  pub certificate : Certificate
  pub identifier_at : ℕ
  pub optional_fields : OptionalFields

-- Certificate ::= SEQUENCE { tbsCertificate, signatureAlgorithm, signatureValue BIT STRING }
unfoldable pub signed_of : Tlv → Result UncheckedCertificate CertFault
signed_of e = do
  tbs ← der (element_at 0x30 (inside e))
  fields ← tbs_of tbs.0
  identifier ← der (element_at 0x30 tbs.1)
  algorithm ← der (algorithm_of identifier.0)
  signature ← der (bits_at identifier.1)
  done ← der (end_at signature.1)
  Ok (record {
    certificate = record {
      tbs = tbs.0.whole;
      tbsCertificate = fields.fields;
      signatureAlgorithm = algorithm;
      signatureValue = signature.0;
    };
    identifier_at = identifier.0.at;
    optional_fields = fields.optional_fields;
  })

-- both algorithm identifiers are one (4.1.1.2)
unfoldable pub with_one_algorithm : UncheckedCertificate → Result Certificate CertFault
with_one_algorithm s = if bytes_eq s.certificate.tbsCertificate.signature.whole
    s.certificate.signatureAlgorithm.whole then Ok s.certificate
    else Err (breaks s.identifier_at AlgorithmMismatch)

-- the rules of the fields are kept (4.1.2.1, 4.2)
abbrev pub unless_broken : {A : Type 0} → Option CertFault → A → Result A CertFault
unless_broken None x = Ok x
unless_broken (Some f) x = Err f

-- the certificate that octets are, and nothing after it
unfoldable pub whole_of : List ℕ → Result Certificate CertFault
whole_of octets = do
  e ← der (element_at 0x30 (record { rest = octets; at = 0 }))
  signed ← signed_of e.0
  done ← der (end_at e.1)
  certificate ← with_one_algorithm signed
  unless_broken (extensions_fault signed.certificate.tbsCertificate.version signed.optional_fields)
      certificate

-- octets that are at most 65,536, the limit of this profile
unfoldable pub certificate_of : List ℕ → Result Certificate CertFault
certificate_of octets = if nat_lt 65536 (length octets) then Err (breaks 0 (Der TooLarge))
    else whole_of octets
