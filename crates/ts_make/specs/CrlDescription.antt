-- What a description says of a CRL (RFC 5280 5.1).
use Rattle.std.specs.Prelude.{◌≡◌, ℕ, true, false, List, [], ◌∷◌, Some, None, Result, Ok, Err, pos}
use Rattle.ts_der.specs.Integer.{twos_complement}
use Rattle.ts_field.specs.declared.time.Time.{Time}
use Rattle.ts_sig.specs.Key.{Key}
use Rattle.ts_sig.specs.StandIn.{stand_in_accepts}
use Rattle.ts_crl.specs.declared.version.ListVersion.TheVariants.{V2}
use Rattle.ts_crl.specs.Entries.{entries_of}
use Rattle.ts_crl.specs.Fault.{ListFault, criticalCrlExtension, deltaCrl}
use Rattle.ts_crl.specs.Profile.{first_unprocessed, is_delta, has_number}
use Rattle.ts_crl.specs.List.{RevokedCertificate, CertificateList}
use Rattle.ts_make.specs.declared.crl_description.EntryText.{EntryText}
use Rattle.ts_make.specs.declared.crl_description.CrlText.{CrlText}
use Rattle.ts_make.specs.Description.{rdns_in, stand_in, Says}
use Rattle.ts_make.specs.Extensions.{field_of}
use Rattle.ts_make.specs.CrlExtensions.{reason_extension, crl_extensions}

-- the entry has the serial number and the reason of the description, and this date (5.1.2.6)
pub record IsEntryOf (date : Time) (text : EntryText) (e : RevokedCertificate) : Type 0 where
  pub userCertificate : twos_complement e.userCertificate ≡ pos text.serial
  pub revocationDate : e.revocationDate ≡ date
  pub crlEntryExtensions : e.crlEntryExtensions ≡ Some (reason_extension text.reason ∷ [])

-- the entries are those of the description, in their order
abbrev pub AreEntriesOf : Time → List EntryText → List RevokedCertificate → Type 0
AreEntriesOf date [] [] = Unit {0}
AreEntriesOf date (text ∷ texts) (e ∷ es) = IsEntryOf date text e × AreEntriesOf date texts es
AreEntriesOf date texts es = ⊥

-- the list says what the description does: it has a nextUpdate, and each entry is of the time at
-- which the list was issued
pub record IsCrlDescribed (text : CrlText) (c : CertificateList) : Type 0 where
  pub version : c.tbsCertList.version ≡ V2
  pub signature : c.tbsCertList.signature ≡ stand_in
  pub issuer : c.tbsCertList.issuer ≡ rdns_in text.issuer.now
  pub thisUpdate : Says c.tbsCertList.thisUpdate text.this_update
  pub nextUpdate : (t : Time) × (c.tbsCertList.nextUpdate ≡ Some t) × Says t text.next_update
  pub revokedCertificates : AreEntriesOf c.tbsCertList.thisUpdate text.entries.now (entries_of c)
  pub no_entries : text.entries.now ≡ [] → c.tbsCertList.revokedCertificates ≡ None
  pub crlExtensions : c.tbsCertList.crlExtensions ≡ field_of (crl_extensions text)
  pub signatureAlgorithm : c.signatureAlgorithm ≡ stand_in

-- the stand-in takes the list's signature for that of what is signed, under the key of these octets
abbrev pub IsCrlSignedBy : List ℕ → CertificateList → Type 0
IsCrlSignedBy signer c =
    let key : Key = record {
      algorithm = c.signatureAlgorithm.algorithm;
      parameters = c.signatureAlgorithm.parameters;
      octets = signer;
    } in
    stand_in_accepts c.signatureAlgorithm.whole key c.tbs c.signatureValue ≡ true

-- reading gives the list, or refuses it for its first critical extension that is not processed
-- (5.2), or, where it has none, as a delta without a number (5.2.3, 5.2.4)
abbrev pub IsReadAs : Result CertificateList ListFault → CertificateList → Type 0
IsReadAs (Ok c) list = c ≡ list
IsReadAs (Err (criticalCrlExtension oid)) list = first_unprocessed list ≡ Some oid
IsReadAs (Err deltaCrl) list = (first_unprocessed list ≡ None) × (is_delta list ≡ true)
    × (has_number list ≡ false)
IsReadAs (Err other) list = ⊥
