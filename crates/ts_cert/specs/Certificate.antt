-- A certificate (RFC 5280 4.1): what its octets say, in the standard's field names.
use Rattle.std.specs.Prelude.{ℕ, List, [], Option, unwrap_or}
use Rattle.ts_name.specs.Canon.{Attr}
use Rattle.ts_extensions.specs.Extension.{Extension}
use Rattle.ts_cert.specs.declared.version.Version.{Version}
use Rattle.ts_field.specs.Algorithm.{Algorithm}
use Rattle.ts_cert.specs.declared.validity.Validity.{Validity}

-- SubjectPublicKeyInfo (4.1.2.7): the octets of the key are those of a BIT STRING of whole octets
pub record KeyInfo : Type 0 where
  pub algorithm : Algorithm
  pub subjectPublicKey : List ℕ

-- TBSCertificate (4.1.2): the serial number is the content of its INTEGER, a name the attributes of
-- its relative distinguished names, a unique identifier the number of unused bits and the octets of
-- its BIT STRING
pub record Tbs : Type 0 where
  pub version : Version
  pub serialNumber : List ℕ
  pub signature : Algorithm
  pub issuer : List (List Attr)
  pub validity : Validity
  pub subject : List (List Attr)
  pub subjectPublicKeyInfo : KeyInfo
  pub issuerUniqueID : Option (ℕ × List ℕ)
  pub subjectUniqueID : Option (ℕ × List ℕ)
  pub extensions : Option (List Extension)

-- the extensions, none where there is no such field
abbrev pub all_extensions : Tbs → List Extension
all_extensions t = unwrap_or t.extensions []

-- Certificate (4.1.1): tbs is the octets that are signed, all of tbsCertificate
pub record Certificate : Type 0 where
  pub tbs : List ℕ
  pub tbsCertificate : Tbs
  pub signatureAlgorithm : Algorithm
  pub signatureValue : List ℕ
