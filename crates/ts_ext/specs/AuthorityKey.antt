-- The key that signs (RFC 5280 4.2.1.1).
use Rattle.std.specs.Prelude.{◌≡◌, ℕ, ◌++◌, List, Option, Result, Ok, if◌then◌else◌}
use Rattle.ts_der.specs.declared.fault.Fault.{Fault}
use Rattle.ts_der.specs.Answer.{◌>>=◌}
use Rattle.ts_der.specs.Element.{Tlv, inside}
use Rattle.ts_der.specs.Reading.{end_at, value_at}
use Rattle.ts_der.specs.Integer.{integer_rules}
use Rattle.ts_shape.specs.Fields.{IfAny, IsInteger, optional_of}
use Rattle.ts_name.specs.General.{GeneralName}
use Rattle.ts_shape.specs.Shape.{Shape, optional, nothing, ◌then◌, der_rules, no_rules, primitive}
use Rattle.ts_ext.specs.GeneralNames.{AreGeneralNames, general_names_of, general_names}

pub record AuthorityKey : Type 0 where
  pub keyIdentifier : Option (List ℕ)
  pub authorityCertIssuer : Option (List GeneralName)
  pub authorityCertSerialNumber : Option (List ℕ)

-- OCTET STRING, by its content
abbrev pub AreOctetsOf : List ℕ → List ℕ → Type 0
AreOctetsOf content octets = content ≡ octets

abbrev pub content_octets_of : Tlv → Result (List ℕ) Fault
content_octets_of e = Ok e.content

-- CertificateSerialNumber ::= INTEGER
abbrev pub serial_of : Tlv → Result (List ℕ) Fault
serial_of = value_at integer_rules (λ c. c)

-- AuthorityKeyIdentifier ::= SEQUENCE { keyIdentifier [0] KeyIdentifier OPTIONAL,
-- authorityCertIssuer [1] GeneralNames OPTIONAL, authorityCertSerialNumber [2]
-- CertificateSerialNumber OPTIONAL } (4.2.1.1)
pub record IsAuthorityKey (content : List ℕ) (a : AuthorityKey) : Type 0 where
  pub key : List ℕ
  pub issuer : List ℕ
  pub serial : List ℕ
  pub keyIdentifier : IfAny 0x80 AreOctetsOf key a.keyIdentifier
  pub authorityCertIssuer : IfAny 0xA1 AreGeneralNames issuer a.authorityCertIssuer
  pub authorityCertSerialNumber : IfAny 0x82 IsInteger serial a.authorityCertSerialNumber
  pub fields : content ≡ key ++ (issuer ++ serial)

unfoldable pub authority_key_of : Tlv → Result AuthorityKey Fault
authority_key_of e = do
  key ← optional_of 0x80 content_octets_of (inside e)
  issuer ← optional_of 0xA1 general_names_of key.1
  serial ← optional_of 0x82 serial_of issuer.1
  done ← end_at serial.1
  Ok (record {
    keyIdentifier = key.0;
    authorityCertIssuer = issuer.0;
    authorityCertSerialNumber = serial.0;
  })

abbrev pub authority_key_fields : Shape
authority_key_fields = optional (primitive 0x80 no_rules) then optional (general_names 0xA1)
    then optional (primitive 0x82 (der_rules integer_rules)) then nothing
