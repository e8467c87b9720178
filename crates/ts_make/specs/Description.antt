-- What a description says of a certificate.
use Rattle.std.specs.Prelude.{◌≡◌, ℕ, true, List, [], ◌∷◌, map, None, ℤ, pos}
use Rattle.ts_der.specs.Integer.{twos_complement}
use Rattle.ts_name.specs.Canon.{Attr}
use Rattle.ts_time.specs.Civil.{IsInYears}
use Rattle.ts_field.specs.declared.time.TimeForm.TheVariants.{Utc, General}
use Rattle.ts_field.specs.declared.time.Time.{Time}
use Rattle.ts_field.specs.Algorithm.{Algorithm}
use Rattle.ts_sig.specs.Key.{Key}
use Rattle.ts_sig.specs.StandIn.{identifier, algorithm_identifier, stand_in_accepts}
use Rattle.ts_cert.specs.declared.version.Version.TheVariants.{V3}
use Rattle.ts_cert.specs.Certificate.{Certificate}
use Rattle.ts_make.specs.declared.description.AttributeType.{AttributeType}
use Rattle.ts_make.specs.declared.description.AttributeType.TheVariants.{CommonName}
use Rattle.ts_make.specs.declared.description.AttributeType.TheVariants.{OrganizationName}
use Rattle.ts_make.specs.declared.description.RdnText.{RdnText}
use Rattle.ts_make.specs.declared.description.CertText.{CertText}
use Rattle.ts_make.specs.Extensions.{described_extensions, field_of}

-- the content of a type's OBJECT IDENTIFIER: 2 * 40 + 5, 4, and the attribute's arc (RFC 5280
-- Appendix A.1)
abbrev pub kind_octets : AttributeType → List ℕ
kind_octets CommonName = 0x55 ∷ 4 ∷ 3 ∷ []
kind_octets OrganizationName = 0x55 ∷ 4 ∷ 10 ∷ []

-- and its arcs
abbrev pub kind_arcs : AttributeType → List ℕ
kind_arcs CommonName = 2 ∷ 5 ∷ 4 ∷ 3 ∷ []
kind_arcs OrganizationName = 2 ∷ 5 ∷ 4 ∷ 10 ∷ []

-- a relative distinguished name of one attribute, a UTF8String
abbrev pub rdn_in : RdnText → List Attr
rdn_in r = record { kind = kind_octets r.kind; tag = 0x0C; value = r.text.now } ∷ []

-- a name
abbrev pub rdns_in : List RdnText → List (List Attr)
rdns_in rdns = map rdn_in rdns

-- the algorithm of the stand-in, without parameters
abbrev pub stand_in : Algorithm
stand_in = record { algorithm = identifier; parameters = None; whole = algorithm_identifier }

-- the time is this moment, a UTCTime in the years 1950 to 2049 and a GeneralizedTime in all others
-- (4.1.2.5)
pub record Says (t : Time) (moment : ℤ) : Type 0 where
  pub at : t.moment ≡ moment
  pub utc : IsInYears 1950 2049 moment → t.form ≡ Utc
  pub general : ¬ (IsInYears 1950 2049 moment) → t.form ≡ General

-- the certificate says what the description does, and has no unique identifiers (4.1.2.8)
pub record IsDescribed (text : CertText) (c : Certificate) : Type 0 where
  pub version : c.tbsCertificate.version ≡ V3
  pub serialNumber : twos_complement c.tbsCertificate.serialNumber ≡ pos text.serial
  pub signature : c.tbsCertificate.signature ≡ stand_in
  pub issuer : c.tbsCertificate.issuer ≡ rdns_in text.issuer.now
  pub not_before : Says c.tbsCertificate.validity.not_before text.from
  pub not_after : Says c.tbsCertificate.validity.not_after text.to
  pub subject : c.tbsCertificate.subject ≡ rdns_in text.subject.now
  pub keyAlgorithm : c.tbsCertificate.subjectPublicKeyInfo.algorithm ≡ stand_in
  pub subjectPublicKey : c.tbsCertificate.subjectPublicKeyInfo.subjectPublicKey ≡ text.key.now
  pub issuerUniqueID : c.tbsCertificate.issuerUniqueID ≡ None
  pub subjectUniqueID : c.tbsCertificate.subjectUniqueID ≡ None
  pub extensions : c.tbsCertificate.extensions ≡ field_of (described_extensions text.extensions.now)
  pub signatureAlgorithm : c.signatureAlgorithm ≡ stand_in

-- the stand-in takes the certificate's signature for that of what is signed, under the key of these
-- octets
abbrev pub IsSignedBy : List ℕ → Certificate → Type 0
IsSignedBy signer c =
    let key : Key = record {
      algorithm = c.signatureAlgorithm.algorithm;
      parameters = c.signatureAlgorithm.parameters;
      octets = signer;
    } in
    stand_in_accepts c.signatureAlgorithm.whole key c.tbs c.signatureValue ≡ true
