-- A CRL (RFC 5280 5.1): what its octets say, in the standard's field
-- names.
use Rattle.std.specs.Prelude.{ℕ, List, Option, map, option_map}
use Rattle.ts_name.specs.Canon.{Attr}
use Rattle.ts_extensions.specs.Extension.{Extension, Located, unlocated}
use Rattle.ts_field.specs.declared.time.Time.{Time}
use Rattle.ts_field.specs.Algorithm.{Algorithm}
use Rattle.ts_crl.specs.declared.version.ListVersion.{ListVersion}

-- a member of revokedCertificates (5.1.2.6): the serial number is the content of its INTEGER
pub record RevokedCertificate : Type 0 where
  pub userCertificate : List ℕ
  pub revocationDate : Time
  pub crlEntryExtensions : Option (List Extension)

-- TBSCertList (5.1.2)
pub record TbsCertList : Type 0 where
  pub version : ListVersion
  pub signature : Algorithm
  pub issuer : List (List Attr)
  pub thisUpdate : Time
  pub nextUpdate : Option Time
  pub revokedCertificates : Option (List RevokedCertificate)
  pub crlExtensions : Option (List Extension)

-- CertificateList (5.1.1): tbs is the octets that are signed, all of tbsCertList
pub record CertificateList : Type 0 where
  pub tbs : List ℕ
  pub tbsCertList : TbsCertList
  pub signatureAlgorithm : Algorithm
  pub signatureValue : List ℕ

-- ---- the same where it is

-- extensions, and the place of the element that a list or an entry has them in
pub record LocatedExtensions : Type 0 where
  pub at : ℕ
  pub extensions : List Located

pub record LocatedEntry : Type 0 where
  pub userCertificate : List ℕ
  pub revocationDate : Time
  pub crlEntryExtensions : Option LocatedExtensions

pub record LocatedTbsList : Type 0 where
  pub version : ListVersion
  pub signature : Algorithm
  pub issuer : List (List Attr)
  pub thisUpdate : Time
  pub nextUpdate : Option Time
  pub revokedCertificates : Option (List LocatedEntry)
  pub crlExtensions : Option LocatedExtensions

-- with the place of the algorithm identifier beside the signature
pub record LocatedList : Type 0 where
  pub tbs : List ℕ
  pub tbsCertList : LocatedTbsList
  pub signatureAlgorithm : Algorithm
  pub identifier_at : ℕ
  pub signatureValue : List ℕ

-- ---- what it says, wherever it stands

abbrev pub unlocated_extensions : LocatedExtensions → List Extension
unlocated_extensions x = map unlocated x.extensions

abbrev pub unlocated_entry : LocatedEntry → RevokedCertificate
unlocated_entry e = record {
  userCertificate = e.userCertificate;
  revocationDate = e.revocationDate;
  crlEntryExtensions = option_map unlocated_extensions e.crlEntryExtensions;
}

abbrev pub said_tbs : LocatedTbsList → TbsCertList
said_tbs t =
    record {
      version = t.version;
      signature = t.signature;
      issuer = t.issuer;
      thisUpdate = t.thisUpdate;
      nextUpdate = t.nextUpdate;
      revokedCertificates = option_map (map unlocated_entry) t.revokedCertificates;
      crlExtensions = option_map unlocated_extensions t.crlExtensions;
    }

abbrev pub unlocated_list : LocatedList → CertificateList
unlocated_list l = record {
  tbs = l.tbs;
  tbsCertList = said_tbs l.tbsCertList;
  signatureAlgorithm = l.signatureAlgorithm;
  signatureValue = l.signatureValue;
}
