-- Versions and periods of validity, as they are read and encoded.
use Rattle.std.proofs.Common.{◌≡◌, ℕ, ◌+◌, Bool, true, false, cond, not, eqb, List, [], ◌∷◌, ◌++◌, length, Option, Some, None, Result, Ok, Err, refl, sym, ap, subst, ◌∙◌, arith}
use Rattle.std.proofs.lemmas.Bool.{eqb-true}
use Rattle.std.proofs.lemmas.List.{append-nil}
use Rattle.ts_der.specs.declared.fault.DerFault.TheVariants.{IntegerForm}
use Rattle.ts_der.specs.declared.fault.Fault.{Fault}
use Rattle.ts_der.specs.Octets.{AreOctets}
use Rattle.ts_der.specs.Element.{Place, Tlv, Fits, encode, length_octets, inside, encoded_at}
use Rattle.ts_der.specs.Integer.{is_shortest, integer_rules}
use Rattle.ts_der.specs.Reading.{begins_with, at_element, value_at, element_at, optional_at, end_at}
use Rattle.ts_der.specs.View.{StandsIfAny}
use Rattle.ts_der.proofs.OctetLists.{AreOctets-part}
use Rattle.ts_der.proofs.Laws.{bind_ok, ok_is, element-found, element-only, optional-found}
use Rattle.ts_shape.specs.declared.fault.CertRule.TheVariants.{Version as VersionRule}
use Rattle.ts_shape.specs.declared.fault.CertFault.{CertFault}
use Rattle.ts_field.specs.Time.{time_at}
use Rattle.ts_field.proofs.Times.{time-part}
use Rattle.ts_cert.specs.declared.version.Version.{Version}
use Rattle.ts_cert.specs.declared.version.Version.TheVariants.{V1, V2, V3}
use Rattle.ts_shape.specs.Fault.{der, breaks}
use Rattle.ts_shape.specs.Fields.{Within}
use Rattle.ts_cert.specs.Encoding.{IsValidity, version_octets}
use Rattle.ts_cert.specs.Version.{version_named, version_integer, not_default, version_of, version_if, version_at}
use Rattle.ts_shape.proofs.Endings.{end-ok, end-again}
use Rattle.ts_shape.proofs.Parts.{Part, within-part, took, der-ok}
use Rattle.ts_cert.specs.declared.validity.Validity.{Validity}
use Rattle.ts_cert.specs.Reading.{validity_of, validity_at}

-- ---- periods

validity-found : (e : Tlv) (v : Validity) → AreOctets e.content → e.whole ≡ encode 0x30 e.content → validity_of e ≡ Ok v → IsValidity e.content v
unfolding validity_of
validity-found e v fits w read =
    let a = bind_ok (time_at (inside e)) _ v read in
    let b = bind_ok (time_at a.0.1) _ v a.2 in
    let d = bind_ok (end_at b.0.1) _ v b.2 in
    let same : record { not_before = a.0.0; not_after = b.0.0 } ≡ v = ok_is {A = Validity} {E = Fault} (record { not_before = a.0.0; not_after = b.0.0 }) v d.2 in
    let first = took time-part (inside e) a.0.0 a.0.1 fits a.1 in
    let second = took time-part a.0.1 b.0.0 b.0.1 first.3 b.1 in
    let last : a.0.1.rest ≡ second.0 = second.2 ∙ (ap (λ (r : List ℕ). second.0 ++ r) (end-ok b.0.1 d.0 d.1) ∙ append-nil second.0) in
    subst (λ (x : Validity). IsValidity e.content x) same
    (record {
      before = first.0;
      after = second.0;
      not_before = first.1;
      not_after =
          second.1;
      fields = first.2 ∙ ap (λ (r : List ℕ). first.0 ++ r) last;
    })

validity-again : (e : Tlv) (v : Validity) → e.whole ≡ encode 0x30 e.content → IsValidity e.content v → validity_of e ≡ Ok v
unfolding validity_of
validity-again e v w is =
    let a = time-part.again (inside e) v.not_before is.before is.after is.not_before is.fields in
    let place : Place = record { rest = is.after; at = e.start + length is.before } in
    let b = time-part.again place v.not_after is.after [] is.not_after (sym (append-nil is.after)) in
    let d = end-again (e.start + length is.before + length is.after) in
    rw (a, b, d) refl

pub validity-part : Part validity_at (Within 0x30 IsValidity)
unfolding validity_at
validity-part = within-part 0x30 validity_of IsValidity (record { found = validity-found; again = validity-again })

-- ---- versions

-- the content of a version's INTEGER
version_content : Version → List ℕ
version_content V1 = 0 ∷ []
version_content V2 = 1 ∷ []
version_content V3 = 2 ∷ []

integer-ok : (b : Bool) (at : ℕ) (x y : List ℕ) → der (at_element at (Rattle.ts_der.specs.Rules.value_unless (cond (not b) (Some IntegerForm) None) x)) ≡ Ok y → x ≡ y
integer-ok true at x y e = ok_is {E = CertFault} x y e
integer-ok false at x y e = absurd cc

named-found : (at : ℕ) (content : List ℕ) (v : Version) → version_named at content ≡ Ok v → content ≡ version_content v
unfolding version_content
named-found at [] v e = absurd cc
named-found at (o ∷ p ∷ content) v e = absurd cc
named-found at (o ∷ []) v e = by_number (eqb o 0) (eqb o 1) (eqb o 2) refl refl refl e
  where
    by_number : (a b c : Bool) → eqb o 0 ≡ a → eqb o 1 ≡ b → eqb o 2 ≡ c
        → cond {A = Result Version CertFault} a (Ok V1)
        (cond b (Ok V2) (cond c (Ok V3) (Err (breaks at VersionRule)))) ≡ Ok v → o
        ∷ [] ≡ version_content v
    by_number true b c x y z e = ap (λ (n : ℕ). n ∷ []) (eqb-true o 0 x) ∙ ap version_content (ok_is {E = CertFault} V1 v e)
    by_number false true c x y z e = ap (λ (n : ℕ). n ∷ []) (eqb-true o 1 y) ∙ ap version_content (ok_is {E = CertFault} V2 v e)
    by_number false false true x y z e = ap (λ (n : ℕ). n ∷ []) (eqb-true o 2 z) ∙ ap version_content (ok_is {E = CertFault} V3 v e)
    by_number false false false x y z e = absurd cc

number-found : (e : Tlv) (v : Version) → version_integer e ≡ Ok v → e.content ≡ version_content v
unfolding version_integer
number-found e v read =
    let b = bind_ok (der (value_at integer_rules (λ c. c) e)) (λ content. version_named e.at content) v read in
    integer-ok (is_shortest e.content) e.at e.content b.0 b.1 ∙ named-found e.at b.0 v b.2

kept : (e : Tlv) (v w : Version) → not_default e v ≡ Ok w → encode 0xA0 (encode 0x02 (version_content v)) ≡ version_octets w
unfolding version_content
kept e V1 w r = absurd cc
kept e V2 w r = ap version_octets (ok_is {E = CertFault} V2 w r)
kept e V3 w r = ap version_octets (ok_is {E = CertFault} V3 w r)

version_of-found : (e : Tlv) (v : Version) → AreOctets e.content → version_of e ≡ Ok v → encode 0xA0 e.content ≡ version_octets v
unfolding version_of
version_of-found e v fits read =
    let n = bind_ok (der (element_at 0x02 (inside e))) _ v read in
    let k = bind_ok (version_integer n.0.0) _ v n.2 in
    let d = bind_ok (der (end_at n.0.1)) _ v k.2 in
    let s = element-found 0x02 (inside e) n.0.0 n.0.1 fits (der-ok (element_at 0x02 (inside e)) n.0 n.1) in
    let stands = s.0 in
    let content : e.content ≡ encode 0x02 (version_content k.0) =
    stands.whole
    ∙ (ap (λ (r : List ℕ). n.0.0.whole ++ r) (end-ok n.0.1 d.0 (der-ok (end_at n.0.1) d.0 d.1))
    ∙ (append-nil n.0.0.whole
    ∙ (stands.encoded ∙ (ap (λ (t : ℕ). encode t n.0.0.content) s.1 ∙ ap (λ (c : List ℕ). encode 0x02 c) (number-found n.0.0 k.0 k.1))))) in
    ap (λ (c : List ℕ). encode 0xA0 c) content ∙ kept e k.0 v d.2

pub version-found : (here : Place) (v : Version) (after : Place) → AreOctets here.rest → version_at here ≡ Ok (v, after) → here.rest ≡ version_octets v ++ after.rest
unfolding version_at
version-found here v after fits read =
    let o = bind_ok (der (optional_at 0xA0 here)) _ (v, after) read in
    let k = bind_ok (version_if o.0.0) (λ version. Ok (version, o.0.1)) (v, after) o.2 in
    let same : (k.0, o.0.1) ≡ (v, after) = ok_is {A = Version × Place} {E = CertFault} (k.0, o.0.1) (v, after) k.2 in
    let s = optional-found 0xA0 here o.0.0 o.0.1 fits (der-ok (optional_at 0xA0 here) o.0 o.1) in
    subst (λ (p : Version × Place). here.rest ≡ version_octets p.0 ++ p.1.rest) same (by_option o.0.0 o.0.1 k.0 s.0 k.1)
  where
    by_option : (x : Option Tlv) (behind : Place) (u : Version) → StandsIfAny here x 0xA0 behind → version_if x ≡ Ok u → here.rest ≡ version_octets u ++ behind.rest
    by_option None behind u stands r = ap (λ (p : Place). p.rest) (sym stands) ∙ ap (λ (w : Version). version_octets w ++ behind.rest) (ok_is {E = CertFault} V1 u r)
    by_option (Some e) behind u stands r =
        let whole : here.rest ≡ encode 0xA0 e.content ++ behind.rest = stands.0.whole
        ∙ (ap (λ (w : List ℕ). w ++ behind.rest) stands.0.encoded
        ∙ ap (λ (t : ℕ). encode t e.content ++ behind.rest) stands.1) in
        let inner = AreOctets-part 0xA0 e.content behind.rest (subst AreOctets whole fits) in
        whole ∙ ap (λ (w : List ℕ). w ++ behind.rest) (version_of-found e u inner r)

fits_number : (n : ℕ) → Fits 0x02 (n ∷ [])
fits_number n = record { octet = omega arith; low = omega arith; short = omega arith }

pub fits_version : (n : ℕ) → Fits 0xA0 (encode 0x02 (n ∷ []))
unfolding length_octets
fits_version n = record { octet = omega arith; low = omega arith; short = omega arith }

present-again : (n at : ℕ) (v : Version)
    → not_default (encoded_at at 0xA0 (encode 0x02 (n ∷ []))) v ≡ Ok v
    → version_integer (encoded_at (encoded_at at 0xA0 (encode 0x02 (n ∷ []))).start 0x02 (n ∷ [])) ≡
    Ok v
    → version_of (encoded_at at 0xA0 (encode 0x02 (n ∷ []))) ≡ Ok v
unfolding version_of
present-again n at v keeps number =
    let e : Tlv = encoded_at at 0xA0 (encode 0x02 (n ∷ [])) in
    let one = element-only (inside e) 0x02 (n ∷ []) [] (fits_number n) (sym (append-nil (encode 0x02 (n ∷ [])))) in
    rw (one, number, end-again (e.start + length (encode 0x02 (n ∷ []))), keeps) refl

pub version-again : (here : Place) (v : Version) (rest : List ℕ) → begins_with 0xA0 rest ≡ false → here.rest ≡ version_octets v ++ rest
    → version_at here ≡ Ok (v, record { rest = rest; at = here.at + length (version_octets v) })
unfolding version_at optional_at version_integer
version-again here V1 rest b e =
    let none : begins_with 0xA0 here.rest ≡ false = ap (begins_with 0xA0) e ∙ b in
    let at : here ≡ record { rest = rest; at = here.at + 0 } = ap (λ (r : List ℕ). record { rest = r; at = here.at }) e ∙ ap (λ (n : ℕ). record { rest = rest; at = n }) (omega arith) in
    rw none (ap (λ (p : Place). Ok (V1, p)) at)
version-again here V2 rest b e =
    let one = element-only here 0xA0 (encode 0x02 (1 ∷ [])) rest (fits_version 1) e in
    let there : begins_with 0xA0 here.rest ≡ true = ap (begins_with 0xA0) e in
    let v = present-again 1 here.at V2 refl refl in
    rw (there, one, v) refl
version-again here V3 rest b e =
    let one = element-only here 0xA0 (encode 0x02 (2 ∷ [])) rest (fits_version 2) e in
    let there : begins_with 0xA0 here.rest ≡ true = ap (begins_with 0xA0) e in
    let v = present-again 2 here.at V3 refl refl in
    rw (there, one, v) refl
