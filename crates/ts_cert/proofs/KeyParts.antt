-- Keys and unique identifiers, each as it is read and encoded.
use Rattle.std.proofs.Common.{◌≡◌, ℕ, ◌+◌, List, [], ◌∷◌, ◌++◌, length, None, Ok, refl, sym, ap, subst, ◌∙◌}
use Rattle.std.proofs.lemmas.List.{append-nil}
use Rattle.ts_der.specs.declared.fault.Fault.{Fault}
use Rattle.ts_der.specs.Octets.{AreOctets}
use Rattle.ts_der.specs.BitString.{bits_of, bit_parts, bits_rules}
use Rattle.ts_der.specs.Rules.{first_broken, value_unless}
use Rattle.ts_der.specs.Element.{Place, Tlv, encode, inside}
use Rattle.ts_der.specs.Reading.{end_at}
use Rattle.ts_der.proofs.BitStrings.{bits-found, bits-only}
use Rattle.ts_der.proofs.RuleLists.{checked-value}
use Rattle.ts_der.proofs.Laws.{bind_ok, ok_is}
use Rattle.ts_shape.specs.Fields.{Within, bits_at}
use Rattle.ts_shape.specs.Shape.{plain, der_rules}
use Rattle.ts_shape.proofs.Endings.{end-ok, end-again}
use Rattle.ts_shape.proofs.Parts.{Part, within-part, took}
use Rattle.ts_shape.proofs.FieldParts.{bits-part}
use Rattle.ts_field.specs.Algorithm.{algorithm_at}
use Rattle.ts_field.proofs.Algorithms.{algorithm-part}
use Rattle.ts_cert.specs.Certificate.{KeyInfo}
use Rattle.ts_ext.proofs.Formats.{Format, by_der_rules}
use Rattle.ts_cert.specs.Encoding.{IsKeyInfo, IsUniqueIdentifier}
use Rattle.ts_cert.specs.Reading.{key_of, key_at, unique_identifier_of}

-- ---- keys

key-found : (e : Tlv) (k : KeyInfo) → AreOctets e.content → e.whole ≡ encode 0x30 e.content → key_of e ≡ Ok k → IsKeyInfo e.content k
unfolding key_of
key-found e k fits w read =
    let a = bind_ok (algorithm_at (inside e)) _ k read in
    let b = bind_ok (bits_at a.0.1) _ k a.2 in
    let d = bind_ok (end_at b.0.1) _ k b.2 in
    let same : record { algorithm = a.0.0; subjectPublicKey = b.0.0 } ≡ k = ok_is {A = KeyInfo} {E = Fault} (record { algorithm = a.0.0; subjectPublicKey = b.0.0 }) k d.2 in
    let first = took algorithm-part (inside e) a.0.0 a.0.1 fits a.1 in
    let second = took bits-part a.0.1 b.0.0 b.0.1 first.3 b.1 in
    let last : a.0.1.rest ≡ second.0 = second.2 ∙ (ap (λ (r : List ℕ). second.0 ++ r) (end-ok b.0.1 d.0 d.1) ∙ append-nil second.0) in
    subst (λ (x : KeyInfo). IsKeyInfo e.content x) same
    (record {
      identifier = first.0;
      key = second.0;
      algorithm = first.1;
      subjectPublicKey =
          second.1;
      fields = first.2 ∙ ap (λ (r : List ℕ). first.0 ++ r) last;
    })

key-again : (e : Tlv) (k : KeyInfo) → e.whole ≡ encode 0x30 e.content → IsKeyInfo e.content k → key_of e ≡ Ok k
unfolding key_of
key-again e k w is =
    let a = algorithm-part.again (inside e) k.algorithm is.identifier is.key is.algorithm is.fields in
    let place : Place = record { rest = is.key; at = e.start + length is.identifier } in
    let b = bits-part.again place k.subjectPublicKey is.key [] is.subjectPublicKey (sym (append-nil is.key)) in
    let d = end-again (e.start + length is.identifier + length is.key) in
    rw (a, b, d) refl

pub key-part : Part key_at (Within 0x30 IsKeyInfo)
unfolding key_at
key-part = within-part 0x30 key_of IsKeyInfo (record { found = key-found; again = key-again })

-- ---- unique identifiers

unique-kept : (c : List ℕ) → AreOctets c → first_broken bits_rules c ≡ None → IsUniqueIdentifier c (bit_parts c)
unique-kept c fits kept =
    let is = bits-found c (bit_parts c) (ap (λ o. value_unless o (bit_parts c)) kept) in
    (is.parts ∙ sym (ap (λ (o : List ℕ). (bit_parts o).0 ∷ (bit_parts o).1) is.parts), is)

unique-encoded : (c : List ℕ) (u : ℕ × List ℕ) → IsUniqueIdentifier c u → (first_broken bits_rules c ≡ None) × (bit_parts c ≡ u)
unique-encoded c u is =
    let v = checked-value (first_broken bits_rules c) (bit_parts c) (is.1.unused, is.1.octets) (bits-only c (bits_of u.0 u.1) is.1).0 in
    (v.0, ap bit_parts is.0)

pub unique_identifier-format : Format unique_identifier_of IsUniqueIdentifier plain (der_rules bits_rules)
unfolding unique_identifier_of
unique_identifier-format = by_der_rules bits_rules bit_parts IsUniqueIdentifier unique-kept unique-encoded
