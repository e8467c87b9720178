-- The one encoding of a CRL (RFC 5280 5.1, as restated in Appendix A.1),
-- from its parts up to the whole.
use Rattle.std.specs.Prelude.{◌≡◌, ℕ, ◌≤◌, List, [], ◌∷◌, ◌++◌, length, Option, Some, None}
use Rattle.ts_der.specs.Element.{encode}
use Rattle.ts_name.specs.NameEncoding.{IsName}
use Rattle.ts_shape.specs.Fields.{Within, IfAny, IsInteger, IsBits}
use Rattle.ts_shape.specs.Items.{AreItems}
use Rattle.ts_extensions.specs.Extension.{AreExtensions}
use Rattle.ts_field.specs.declared.time.Time.{Time}
use Rattle.ts_field.specs.Time.{IsTime}
use Rattle.ts_field.specs.Algorithm.{IsAlgorithm}
use Rattle.ts_crl.specs.declared.version.ListVersion.{ListVersion}
use Rattle.ts_crl.specs.declared.version.ListVersion.TheVariants.{V1, V2}
use Rattle.ts_crl.specs.declared.extension_rule.ExtensionRule.TheVariants.{Repeated, Values}
use Rattle.ts_crl.specs.List.{RevokedCertificate, TbsCertList, CertificateList}
use Rattle.ts_crl.specs.Profile.{profile_fault}
use Rattle.ts_crl.specs.Rules.{FitVersion, AllKeep}

-- version Version OPTIONAL, which is v2(1) where it is present (5.1.2.1)
abbrev pub crl_version_octets : ListVersion → List ℕ
crl_version_octets V1 = []
crl_version_octets V2 = encode 0x02 (1 ∷ [])

-- Time OPTIONAL
abbrev pub IsTimeIfAny : List ℕ → Option Time → Type 0
IsTimeIfAny octets None = octets ≡ []
IsTimeIfAny octets (Some t) = IsTime octets t

-- a member of revokedCertificates ::= SEQUENCE { userCertificate CertificateSerialNumber,
-- revocationDate Time, crlEntryExtensions Extensions OPTIONAL } (5.1.2.6)
pub record IsRevokedCertificate (content : List ℕ) (e : RevokedCertificate) : Type 0 where
  pub serial : List ℕ
  pub date : List ℕ
  pub extensions : List ℕ
  pub userCertificate : Within 0x02 IsInteger serial e.userCertificate
  pub revocationDate : IsTime date e.revocationDate
  pub crlEntryExtensions : IfAny 0x30 AreExtensions extensions e.crlEntryExtensions
  pub fields : content ≡ serial ++ (date ++ extensions)

-- revokedCertificates ::= SEQUENCE OF, of which there may be none
abbrev pub AreRevoked : List ℕ → List RevokedCertificate → Type 0
AreRevoked = AreItems (Within 0x30 IsRevokedCertificate)

-- TBSCertList ::= SEQUENCE { version, signature, issuer, thisUpdate, nextUpdate,
-- revokedCertificates, crlExtensions } (5.1.2)
pub record IsTbsCertList (content : List ℕ) (t : TbsCertList) : Type 0 where
  pub algorithm : List ℕ
  pub issued_by : List ℕ
  pub this : List ℕ
  pub next : List ℕ
  pub revoked : List ℕ
  pub extensions : List ℕ
  pub signature : Within 0x30 IsAlgorithm algorithm t.signature
  pub issuer : Within 0x30 IsName issued_by t.issuer
  pub thisUpdate : IsTime this t.thisUpdate
  pub nextUpdate : IsTimeIfAny next t.nextUpdate
  pub revokedCertificates : IfAny 0x30 AreRevoked revoked t.revokedCertificates
  pub crlExtensions : IfAny 0xA0 (Within 0x30 AreExtensions) extensions t.crlExtensions
  pub fields : content ≡ crl_version_octets t.version
      ++ (algorithm ++ (issued_by ++ (this ++ (next ++ (revoked ++ extensions)))))

-- the fields of CertificateList ::= SEQUENCE { tbsCertList, signatureAlgorithm, signatureValue BIT
-- STRING } (5.1.1)
pub record IsSignedCrl (content : List ℕ) (c : CertificateList) : Type 0 where
  pub identifier : List ℕ
  pub bits : List ℕ
  pub tbsCertList : Within 0x30 IsTbsCertList c.tbs c.tbsCertList
  pub signatureAlgorithm : Within 0x30 IsAlgorithm identifier c.signatureAlgorithm
  pub signatureValue : Within 0x03 IsBits bits c.signatureValue
  pub fields : content ≡ c.tbs ++ (identifier ++ bits)

-- the octets are the list: at most 4,194,304; both algorithm identifiers are one (5.1.1.2); in
-- version 1 there are no extensions (5.1.2.1); none occurs twice (4.2); the values are those of
-- their extensions (5.2, 5.3); and the list keeps the rules of this profile
pub record IsCertificateList (octets : List ℕ) (c : CertificateList) : Type 0 where
  pub size : length octets ≤ 4194304
  pub whole : Within 0x30 IsSignedCrl octets c
  pub agree : c.tbsCertList.signature ≡ c.signatureAlgorithm
  pub version : FitVersion c.tbsCertList.version c
  pub distinct : AllKeep Repeated c
  pub sound : AllKeep Values c
  pub profile : profile_fault c ≡ None
