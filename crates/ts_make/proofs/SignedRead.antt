-- What is encoded as a certificate is read as that one, unless a rule of its fields is broken.
use Rattle.std.proofs.Common.{◌≡◌, ℕ, ◌+◌, ◌≤◌, true, false, ltb, List, [], length, refl, sym, ap, ◌∙◌}
use Rattle.std.specs.Str.{bytes_eq}
use Rattle.std.proofs.lemmas.Bool.{le-ltb}
use Rattle.std.proofs.lemmas.Slice.Eq.{bytes_eq-Decides}
use Rattle.std.proofs.lemmas.List.{append-nil}
use Rattle.ts_der.specs.Element.{Place, encode, encoded_at}
use Rattle.ts_der.proofs.Laws.{element-only}
use Rattle.ts_shape.specs.Fields.{Within}
use Rattle.ts_shape.proofs.Endings.{end-again}
use Rattle.ts_field.specs.Algorithm.{Algorithm}
use Rattle.ts_cert.specs.Certificate.{Certificate}
use Rattle.ts_cert.specs.Rules.{OptionalFields, extensions_fault}
use Rattle.ts_cert.specs.Encoding.{IsSigned}
use Rattle.ts_cert.specs.Reading.{with_one_algorithm, unless_broken, whole_of, certificate_of}
use Rattle.ts_cert.proofs.FieldRules.{Has}
use Rattle.ts_cert.proofs.Certificates.{signed-again}

pub signed-read : (octets : List ℕ) (c : Certificate) → length octets ≤ 65536 → Within 0x30 IsSigned octets c → c.tbsCertificate.signature ≡ c.signatureAlgorithm
    → (l : OptionalFields) × Has c.tbsCertificate l × (certificate_of octets ≡ unless_broken (extensions_fault c.tbsCertificate.version l) c)
unfolding certificate_of whole_of with_one_algorithm
signed-read octets c le w same =
    let here : Place = record { rest = octets; at = 0 } in
    let small : ltb 65536 (length octets) ≡ false = le-ltb 65536 (length octets) le in
    let one = element-only here 0x30 w.content [] w.fits (w.encoded ∙ sym (append-nil (encode 0x30 w.content))) in
    let s = signed-again (encoded_at 0 0x30 w.content) c w.value in
    let d = end-again (0 + length (encode 0x30 w.content)) in
    let agree : bytes_eq c.tbsCertificate.signature.whole c.signatureAlgorithm.whole ≡ true =
    (bytes_eq-Decides c.tbsCertificate.signature.whole c.signatureAlgorithm.whole).1
    (ap (λ (a : Algorithm). a.whole) same) in
    (s.0, s.2, rw (small, one, s.1, d, agree) refl)
