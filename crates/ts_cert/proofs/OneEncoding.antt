-- No two lists of octets are the fields of one certificate.
use Rattle.std.proofs.Common.{◌≡◌, ℕ, List, ◌++◌, refl, sym, ap, ◌∙◌}
use Rattle.ts_name.specs.NameEncoding.{IsName}
use Rattle.ts_shape.proofs.OneEncoding.{One, one-within, one-if-any}
use Rattle.ts_extensions.proofs.OneExtension.{one-explicit}
use Rattle.ts_field.proofs.OneEncoding.{one-algorithm, one-name, one-time}
use Rattle.ts_cert.specs.Certificate.{Tbs}
use Rattle.ts_shape.specs.Fields.{IsInteger, IsBits}
use Rattle.ts_extensions.specs.Extension.{AreExplicit}
use Rattle.ts_cert.specs.Encoding.{IsKeyInfo, IsValidity, IsUniqueIdentifier, IsTbs}

one-validity : One IsValidity
one-validity c d v a b =
    let before = one-time v.not_before.form a.before b.before v.not_before.moment a.not_before b.not_before in
    let after = one-time v.not_after.form a.after b.after v.not_after.moment a.not_after b.not_after in
    a.fields ∙ (ap (λ (o : List ℕ). o ++ a.after) before ∙ (ap (λ (o : List ℕ). b.before ++ o) after ∙ sym b.fields))

one-key : One IsKeyInfo
one-key c d k a b =
    let first = one-algorithm a.identifier b.identifier k.algorithm a.algorithm b.algorithm in
    let second = one-within 0x03 IsBits (λ v w n is other. is ∙ sym other) a.key b.key k.subjectPublicKey a.subjectPublicKey b.subjectPublicKey in
    a.fields ∙ (ap (λ (o : List ℕ). o ++ a.key) first ∙ (ap (λ (o : List ℕ). b.identifier ++ o) second ∙ sym b.fields))

one-unique : One IsUniqueIdentifier
one-unique c d u a b = a.0 ∙ sym b.0

pub one-tbs : (c d : List ℕ) (t : Tbs) → IsTbs c t → IsTbs d t → c ≡ d
one-tbs c d t a b =
    let serial = one-within 0x02 IsInteger (λ v w n is other. is.0 ∙ sym other.0) a.serial b.serial t.serialNumber a.serialNumber b.serialNumber in
    let algorithm = one-algorithm a.algorithm b.algorithm t.signature a.signature b.signature in
    let issuer = one-within 0x30 IsName one-name a.issued_by b.issued_by t.issuer a.issuer b.issuer in
    let period = one-within 0x30 IsValidity one-validity a.period b.period t.validity a.validity b.validity in
    let subject = one-within 0x30 IsName one-name a.issued_to b.issued_to t.subject a.subject b.subject in
    let key = one-within 0x30 IsKeyInfo one-key a.key b.key t.subjectPublicKeyInfo a.subjectPublicKeyInfo b.subjectPublicKeyInfo in
    let issuer_id = one-if-any 0x81 IsUniqueIdentifier one-unique a.issuer_id b.issuer_id t.issuerUniqueID a.issuerUniqueID b.issuerUniqueID in
    let subject_id = one-if-any 0x82 IsUniqueIdentifier one-unique a.subject_id b.subject_id t.subjectUniqueID a.subjectUniqueID b.subjectUniqueID in
    let last = one-if-any 0xA3 AreExplicit one-explicit a.last b.last t.extensions a.extensions b.extensions in
    a.fields ∙ (rw (serial, algorithm, issuer, period, subject, key, issuer_id, subject_id, last) refl ∙ sym b.fields)
