-- Where the parts of a certificate (RFC 5280 4.1) begin in its octets.
use Rattle.std.specs.Prelude.{◌≡◌, ℕ, ◌≤◌, List, length}
use Rattle.ts_der.specs.Stands.{HavePart}
use Rattle.ts_cert.specs.declared.layout.Layout.{Layout}
use Rattle.ts_cert.specs.Certificate.{Certificate}
use Rattle.ts_cert.specs.Encoding.{IsTbs, IsCertificate}

-- a part of octets begins at one offset, and what follows it at another
pub record Lies (octets : List ℕ) (from : ℕ) (part : List ℕ) (to : ℕ) : Type 0 where
  pub here : HavePart octets from part to
  pub begins : from ≤ length octets

-- the parts of what is signed begin at these offsets
pub record AreFieldsAt (octets content : List ℕ) (c : Certificate)
    (is : IsTbs content c.tbsCertificate) (l : Layout) : Type 0 where
  pub version : l.version ≡ c.tbsCertificate.version
  pub serial_number : Lies octets l.serial_number is.serial l.signature
  pub signature : Lies octets l.signature is.algorithm l.issuer
  pub issuer : Lies octets l.issuer is.issued_by l.validity
  pub validity : Lies octets l.validity is.period l.subject
  pub subject : Lies octets l.subject is.issued_to l.subject_public_key_info
  pub subject_public_key_info : Lies octets l.subject_public_key_info is.key l.issuer_unique_id
  pub issuer_unique_id : Lies octets l.issuer_unique_id is.issuer_id l.subject_unique_id
  pub subject_unique_id : Lies octets l.subject_unique_id is.subject_id l.extensions
  pub extensions : Lies octets l.extensions is.last l.signature_algorithm

-- and those of the whole
pub record AreAt (octets : List ℕ) (c : Certificate) (is : IsCertificate octets c)
    (l : Layout) : Type 0 where
  pub tbs : Lies octets l.tbs c.tbs l.signature_algorithm
  pub fields : AreFieldsAt octets is.whole.value.tbsCertificate.content c
      is.whole.value.tbsCertificate.value l
  pub signature_algorithm : Lies octets l.signature_algorithm is.whole.value.identifier
      l.signature_value
  pub signature_value : Lies octets l.signature_value is.whole.value.bits (length octets)

-- octets are a certificate, of which the parts begin at these offsets
abbrev pub AreLaidOut : List ℕ → Layout → Type 0
AreLaidOut octets l = (c : Certificate) × (is : IsCertificate octets c) × AreAt octets c is l
