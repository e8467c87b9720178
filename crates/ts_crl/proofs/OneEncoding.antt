-- No two lists of octets are the fields of one list.
use Rattle.std.proofs.Common.{◌≡◌, ℕ, List, Option, Some, None, refl, sym, ◌∙◌}
use Rattle.ts_shape.specs.Fields.{Within, IsInteger}
use Rattle.ts_shape.proofs.OneEncoding.{One, one-within, one-if-any, one-items}
use Rattle.ts_name.specs.NameEncoding.{IsName}
use Rattle.ts_extensions.specs.Extension.{AreExtensions}
use Rattle.ts_extensions.proofs.OneExtension.{one-extensions, one-explicit}
use Rattle.ts_field.specs.declared.time.Time.{Time}
use Rattle.ts_field.proofs.OneEncoding.{one-algorithm, one-name, one-time}
use Rattle.ts_crl.specs.List.{TbsCertList}
use Rattle.ts_crl.specs.Encoding.{IsTimeIfAny, IsRevokedCertificate, AreRevoked, IsTbsCertList}

one-time-if-any : (x : Option Time) (c d : List ℕ) → IsTimeIfAny c x → IsTimeIfAny d x → c ≡ d
one-time-if-any None c d a b = a ∙ sym b
one-time-if-any (Some t) c d a b = one-time t.form c d t.moment a b

one-entry : One IsRevokedCertificate
one-entry c d e a b =
    let serial = one-within 0x02 IsInteger (λ v w n is other. is.0 ∙ sym other.0) a.serial b.serial e.userCertificate a.userCertificate b.userCertificate in
    let date = one-time e.revocationDate.form a.date b.date e.revocationDate.moment a.revocationDate b.revocationDate in
    let extensions = one-if-any 0x30 AreExtensions one-extensions a.extensions b.extensions e.crlEntryExtensions a.crlEntryExtensions b.crlEntryExtensions in
    a.fields ∙ (rw (serial, date, extensions) refl ∙ sym b.fields)

one-revoked : One AreRevoked
one-revoked c d es a b = one-items (Within 0x30 IsRevokedCertificate) (one-within 0x30 IsRevokedCertificate one-entry) es c d a b

pub one-tbs : (c d : List ℕ) (t : TbsCertList) → IsTbsCertList c t → IsTbsCertList d t → c ≡ d
one-tbs c d t a b =
    let algorithm = one-algorithm a.algorithm b.algorithm t.signature a.signature b.signature in
    let issuer = one-within 0x30 IsName one-name a.issued_by b.issued_by t.issuer a.issuer b.issuer in
    let this = one-time t.thisUpdate.form a.this b.this t.thisUpdate.moment a.thisUpdate b.thisUpdate in
    let next = one-time-if-any t.nextUpdate a.next b.next a.nextUpdate b.nextUpdate in
    let revoked = one-if-any 0x30 AreRevoked one-revoked a.revoked b.revoked t.revokedCertificates a.revokedCertificates b.revokedCertificates in
    let extensions = one-if-any 0xA0 (Within 0x30 AreExtensions) one-explicit a.extensions b.extensions t.crlExtensions a.crlExtensions b.crlExtensions in
    a.fields ∙ (rw (algorithm, issuer, this, next, revoked, extensions) refl ∙ sym b.fields)
