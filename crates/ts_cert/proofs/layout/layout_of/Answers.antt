use Rattle.std.proofs.Common.{◌≡◌, ℕ, false, List, [], ◌++◌, length, drop, refl, sym, ap, ◌∙◌, append_assoc, arith}
use Rattle.std.proofs.lemmas.List.{append-nil, drop_all}
use Rattle.ts_der.specs.Element.{encode}
use Rattle.ts_der.specs.Reading.{begins_with}
use Rattle.ts_shape.proofs.OptionalParts.{begins-other, begins-if-any}
use Rattle.ts_extensions.specs.Extension.{AreExplicit}
use Rattle.ts_cert.specs.Encoding.{IsUniqueIdentifier}
use Rattle.ts_cert.proofs.Layouts.{lies, passed, if-passed, version-passed}
use Rattle.ts_cert.proofs.layout.layout_of.Goals as goal

pub returns : goal.returns
returns c cert is version =
    let octets : List ℕ = c.args.octets.now in
    let w = is.whole in
    let s = w.value in
    let t = s.tbsCertificate in
    let f = t.value in
    let r : List ℕ = s.identifier ++ s.bits in
    let y8 : List ℕ = f.subject_id ++ f.last in
    let y7 : List ℕ = f.issuer_id ++ y8 in
    let y6 : List ℕ = f.key ++ y7 in
    let y5 : List ℕ = f.issued_to ++ y6 in
    let y4 : List ℕ = f.period ++ y5 in
    let y3 : List ℕ = f.issued_by ++ y4 in
    let y2 : List ℕ = f.algorithm ++ y3 in
    let y1 : List ℕ = f.serial ++ y2 in
    let at_tbs : drop c.inside-tbs.result octets ≡ w.content ++ [] = c.inside-tbs.ensures.begins 0x30 w.content [] w.fits (w.encoded ∙ sym (append-nil (encode 0x30 w.content))) in
    let signed : drop c.inside-tbs.result octets ≡ cert.tbs ++ r = at_tbs ∙ (append-nil w.content ∙ s.fields) in
    let at_fields = c.inside-fields.ensures.begins 0x30 t.content r t.fits (signed ∙ ap (λ (o : List ℕ). o ++ r) t.encoded) ∙ ap (λ (o : List ℕ). o ++ r) f.fields in
    let no_version : begins_with 0xA0 (y1 ++ r) ≡ false = ap (λ (o : List ℕ). begins_with 0xA0 o) (append_assoc f.serial y2 r) ∙ begins-other f.serialNumber 0xA0 refl (y2 ++ r) in
    let no_subject : begins_with 0x82 (f.last ++ r) ≡ false =
    begins-if-any 0xA3 AreExplicit f.last cert.tbsCertificate.extensions f.extensions 0x82 refl
    r (begins-other s.signatureAlgorithm 0x82 refl s.bits) in
    let no_issuer : begins_with 0x81 (y8 ++ r) ≡ false =
    ap (λ (o : List ℕ). begins_with 0x81 o) (append_assoc f.subject_id f.last r)
    ∙ begins-if-any 0x82 IsUniqueIdentifier f.subject_id cert.tbsCertificate.subjectUniqueID f.subjectUniqueID 0x81 refl (f.last ++ r)
    (begins-if-any 0xA3 AreExplicit f.last cert.tbsCertificate.extensions f.extensions 0x81 refl r (begins-other s.signatureAlgorithm 0x81 refl s.bits)) in
    let at_serial = version-passed cert.tbsCertificate.version octets c.inside-fields.result
    c.end_if-serial_number.result y1 r at_fields no_version
    c.end_if-serial_number.ensures.present c.end_if-serial_number.ensures.absent in
    let at_signature = passed octets c.end_if-serial_number.result c.end_of-signature.result f.serialNumber y2 r at_serial c.end_of-signature.ensures.ends in
    let at_issuer = passed octets c.end_of-signature.result c.end_of-issuer.result f.signature y3 r at_signature c.end_of-issuer.ensures.ends in
    let at_validity = passed octets c.end_of-issuer.result c.end_of-validity.result f.issuer y4 r at_issuer c.end_of-validity.ensures.ends in
    let at_subject = passed octets c.end_of-validity.result c.end_of-subject.result f.validity y5 r at_validity c.end_of-subject.ensures.ends in
    let at_key = passed octets c.end_of-subject.result c.end_of-subject_public_key_info.result f.subject y6 r at_subject c.end_of-subject_public_key_info.ensures.ends in
    let at_issuer_id = passed octets c.end_of-subject_public_key_info.result c.end_of-issuer_unique_id.result f.subjectPublicKeyInfo y7 r at_key c.end_of-issuer_unique_id.ensures.ends in
    let at_subject_id = if-passed 0x81 IsUniqueIdentifier cert.tbsCertificate.issuerUniqueID octets
    c.end_of-issuer_unique_id.result c.end_if-subject_unique_id.result f.issuer_id y8 r
    f.issuerUniqueID at_issuer_id no_issuer c.end_if-subject_unique_id.ensures.present
    c.end_if-subject_unique_id.ensures.absent in
    let at_last = if-passed 0x82 IsUniqueIdentifier cert.tbsCertificate.subjectUniqueID octets
    c.end_if-subject_unique_id.result c.end_if-extensions.result f.subject_id f.last r
    f.subjectUniqueID at_subject_id no_subject c.end_if-extensions.ensures.present
    c.end_if-extensions.ensures.absent in
    let last_alone = at_last ∙ ap (λ (o : List ℕ). o ++ r) (sym (append-nil f.last)) in
    let at_algorithm = if-passed 0xA3 AreExplicit cert.tbsCertificate.extensions octets
    c.end_if-extensions.result c.end_if-signature_algorithm.result f.last
    [] r f.extensions last_alone (begins-other s.signatureAlgorithm 0xA3 refl s.bits)
    c.end_if-signature_algorithm.ensures.present c.end_if-signature_algorithm.ensures.absent in
    let algorithm_alone = at_algorithm ∙ sym (append-nil r) in
    let at_value = passed octets c.end_if-signature_algorithm.result c.end_of-signature_value.result s.signatureAlgorithm s.bits [] algorithm_alone c.end_of-signature_value.ensures.ends in (
      cert,
      is,
      record {
        tbs = record { here = signed ∙ ap (λ (o : List ℕ). cert.tbs ++ o) (sym at_algorithm); begins = c.inside-tbs.ensures.within };
        fields = record {
          version = sym version;
          serial_number = lies f.serial y2 r at_serial at_signature c.end_if-serial_number.ensures.within;
          signature = lies f.algorithm y3 r at_signature at_issuer c.end_of-signature.ensures.within;
          issuer = lies f.issued_by y4 r at_issuer at_validity c.end_of-issuer.ensures.within;
          validity = lies f.period y5 r at_validity at_subject c.end_of-validity.ensures.within;
          subject = lies f.issued_to y6 r at_subject at_key c.end_of-subject.ensures.within;
          subject_public_key_info = lies f.key y7 r at_key at_issuer_id c.end_of-subject_public_key_info.ensures.within;
          issuer_unique_id = lies f.issuer_id y8 r at_issuer_id at_subject_id c.end_of-issuer_unique_id.ensures.within;
          subject_unique_id = lies f.subject_id f.last r at_subject_id at_last c.end_if-subject_unique_id.ensures.within;
          extensions = lies f.last [] r last_alone at_algorithm c.end_if-extensions.ensures.within;
        };
        signature_algorithm = lies s.identifier s.bits [] algorithm_alone at_value c.end_if-signature_algorithm.ensures.within;
        signature_value = record {
          here = at_value ∙ ap (λ (o : List ℕ). s.bits ++ o) (sym (drop_all (length octets) octets (omega arith)));
          begins = c.end_of-signature_value.ensures.within;
        };
      },
    )
