-- The one encoding of a certificate (RFC 5280 4.1, as restated in Appendix A.1), from its parts up
-- to the whole.
use Rattle.std.specs.Prelude.{◌≡◌, ℕ, ◌≤◌, List, [], ◌∷◌, ◌++◌, length, None}
use Rattle.ts_der.specs.BitString.{bits_of, IsBitString}
use Rattle.ts_der.specs.Element.{encode}
use Rattle.ts_name.specs.NameEncoding.{IsName}
use Rattle.ts_shape.specs.Fields.{Within, IfAny, IsInteger, IsBits}
use Rattle.ts_shape.specs.Repeats.{first_repeated}
use Rattle.ts_ext.specs.declared.known.Holder.TheVariants.{Certificate as CertificateHolder}
use Rattle.ts_extensions.specs.Extension.{AreExplicit}
use Rattle.ts_extensions.specs.ValueRules.{AreValid}
use Rattle.ts_field.specs.Algorithm.{IsAlgorithm}
use Rattle.ts_field.specs.Time.{IsTime}
use Rattle.ts_cert.specs.declared.version.Version.{Version}
use Rattle.ts_cert.specs.declared.version.Version.TheVariants.{V1, V2, V3}
use Rattle.ts_cert.specs.declared.validity.Validity.{Validity}
use Rattle.ts_cert.specs.Certificate.{KeyInfo, Tbs, all_extensions, Certificate}

-- version [0] EXPLICIT Version DEFAULT v1, Version ::= INTEGER { v1(0), v2(1), v3(2) } (4.1.2.1):
-- the default is absent
abbrev pub version_octets : Version → List ℕ
version_octets V1 = []
version_octets V2 = encode 0xA0 (encode 0x02 (1 ∷ []))
version_octets V3 = encode 0xA0 (encode 0x02 (2 ∷ []))

-- UniqueIdentifier ::= BIT STRING (4.1.2.8), by its content
abbrev pub IsUniqueIdentifier : List ℕ → ℕ × List ℕ → Type 0
IsUniqueIdentifier content u = (content ≡ u.0 ∷ u.1) × IsBitString content (bits_of u.0 u.1)

-- ---- sequences

-- Validity ::= SEQUENCE { notBefore Time, notAfter Time } (4.1.2.5)
pub record IsValidity (content : List ℕ) (v : Validity) : Type 0 where
  pub before : List ℕ
  pub after : List ℕ
  pub not_before : IsTime before v.not_before
  pub not_after : IsTime after v.not_after
  pub fields : content ≡ before ++ after

-- SubjectPublicKeyInfo ::= SEQUENCE { algorithm AlgorithmIdentifier, subjectPublicKey BIT STRING }
-- (4.1.2.7)
pub record IsKeyInfo (content : List ℕ) (k : KeyInfo) : Type 0 where
  pub identifier : List ℕ
  pub key : List ℕ
  pub algorithm : Within 0x30 IsAlgorithm identifier k.algorithm
  pub subjectPublicKey : Within 0x03 IsBits key k.subjectPublicKey
  pub fields : content ≡ identifier ++ key

-- TBSCertificate ::= SEQUENCE { version, serialNumber, signature, issuer, validity, subject,
-- subjectPublicKeyInfo, issuerUniqueID [1] IMPLICIT UniqueIdentifier OPTIONAL, subjectUniqueID [2]
-- IMPLICIT UniqueIdentifier OPTIONAL, extensions [3] EXPLICIT Extensions OPTIONAL } (4.1.2)
pub record IsTbs (content : List ℕ) (t : Tbs) : Type 0 where
  pub serial : List ℕ
  pub algorithm : List ℕ
  pub issued_by : List ℕ
  pub period : List ℕ
  pub issued_to : List ℕ
  pub key : List ℕ
  pub issuer_id : List ℕ
  pub subject_id : List ℕ
  pub last : List ℕ
  pub serialNumber : Within 0x02 IsInteger serial t.serialNumber
  pub signature : Within 0x30 IsAlgorithm algorithm t.signature
  pub issuer : Within 0x30 IsName issued_by t.issuer
  pub validity : Within 0x30 IsValidity period t.validity
  pub subject : Within 0x30 IsName issued_to t.subject
  pub subjectPublicKeyInfo : Within 0x30 IsKeyInfo key t.subjectPublicKeyInfo
  pub issuerUniqueID : IfAny 0x81 IsUniqueIdentifier issuer_id t.issuerUniqueID
  pub subjectUniqueID : IfAny 0x82 IsUniqueIdentifier subject_id t.subjectUniqueID
  pub extensions : IfAny 0xA3 AreExplicit last t.extensions
  pub fields : content ≡ version_octets t.version
      ++ (serial ++ (algorithm ++ (issued_by
      ++ (period ++ (issued_to ++ (key ++ (issuer_id ++ (subject_id ++ last))))))))

-- each version has the fields that it may have (4.1.2.1): unique identifiers from version 2 on,
-- extensions from version 3 on
abbrev pub FitsVersion : Version → Tbs → Type 0
FitsVersion V1 t = (t.issuerUniqueID ≡ None) × (t.subjectUniqueID ≡ None) × (t.extensions ≡ None)
FitsVersion V2 t = t.extensions ≡ None
FitsVersion V3 t = Unit {0}

-- the fields of Certificate ::= SEQUENCE { tbsCertificate, signatureAlgorithm, signatureValue BIT
-- STRING } (4.1.1)
pub record IsSigned (content : List ℕ) (c : Certificate) : Type 0 where
  pub identifier : List ℕ
  pub bits : List ℕ
  pub tbsCertificate : Within 0x30 IsTbs c.tbs c.tbsCertificate
  pub signatureAlgorithm : Within 0x30 IsAlgorithm identifier c.signatureAlgorithm
  pub signatureValue : Within 0x03 IsBits bits c.signatureValue
  pub fields : content ≡ c.tbs ++ (identifier ++ bits)

-- the octets are the certificate: at most 65,536; both algorithm identifiers are one (4.1.1.2); the
-- fields are those of the version; no extension occurs twice (4.2), and the value of each is one
-- that it has
pub record IsCertificate (octets : List ℕ) (c : Certificate) : Type 0 where
  pub size : length octets ≤ 65536
  pub whole : Within 0x30 IsSigned octets c
  pub agree : c.tbsCertificate.signature ≡ c.signatureAlgorithm
  pub version : FitsVersion c.tbsCertificate.version c.tbsCertificate
  pub distinct : first_repeated (λ x. x.extnID) [] (all_extensions c.tbsCertificate) ≡ None
  pub sound : AreValid CertificateHolder (all_extensions c.tbsCertificate)
