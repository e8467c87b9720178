-- What is made of a moment outside the years 0 to 9999 is refused at its time.
use Rattle.std.proofs.Common.{◌≡◌, ℕ, ◌+◌, ◌≤◌, ◌⊎◌, inl, inr, true, false, ltb, List, [], ◌∷◌, ◌++◌, length, Ok, Err, refl, sym, ap, arith}
use Rattle.std.proofs.lemmas.Bool.{le-ltb}
use Rattle.std.proofs.lemmas.List.{append-nil}
use Rattle.ts_der.specs.declared.fault.DerFault.TheVariants.{TimeForm as TimeRule}
use Rattle.ts_der.specs.Element.{Place, Tlv, Fits, encode, inside, encoded_at}
use Rattle.ts_der.specs.Reading.{fault_at, begins_with, optional_at}
use Rattle.ts_der.proofs.Laws.{element-only}
use Rattle.ts_shape.specs.declared.fault.CertRule.TheVariants.{Der}
use Rattle.ts_shape.specs.Fault.{breaks}
use Rattle.ts_shape.specs.Fields.{optional_of}
use Rattle.ts_name.proofs.NameParts.{name-part}
use Rattle.ts_field.specs.Time.{time_of}
use Rattle.ts_field.proofs.Algorithms.{algorithm-part}
use Rattle.ts_field.proofs.Times.{time-part}
use Rattle.sha2.specs.Sha256.{sha256}
use Rattle.ts_sig.specs.StandIn.{algorithm_identifier}
use Rattle.ts_time.specs.Civil.{IsInYears}
use Rattle.ts_time.specs.Reading.{numbers_in, generalized_time_in}
use Rattle.ts_crl.specs.declared.version.ListVersion.TheVariants.{V2}
use Rattle.ts_crl.specs.Fault.{broken}
use Rattle.ts_crl.specs.Reading.{next_update_at, crl_tbs_of, crl_signed_of, crl_whole_of, shape_of}
use Rattle.ts_crl.specs.Encoding.{crl_version_octets}
use Rattle.ts_crl.specs.Table.{crl_of}
use Rattle.ts_crl.specs.Version.{crl_version_of, crl_version_at}
use Rattle.ts_make.specs.declared.crl_description.CrlText.{CrlText}
use Rattle.ts_make.specs.Description.{rdns_in, stand_in}
use Rattle.ts_make.specs.Times.{IsTimeOf}
use Rattle.ts_make.specs.Made.{bit_octets, name_octets}
use Rattle.ts_make.specs.CrlExtensions.{crl_extensions, crl_field}
use Rattle.ts_make.specs.CrlMade.{revoked_octets, crl_content, crl_tbs, made_crl}
use Rattle.ts_make.specs.CrlMaking.{IsSayableCrl}
use Rattle.ts_make.proofs.StandIns.{fits-sequence, algorithm-is}
use Rattle.ts_make.proofs.NameForms.{name-is}
use Rattle.ts_make.proofs.Said.{time-said}
use Rattle.ts_make.proofs.Refused.{IsRefused, fits-empty, empty-time, outside-is}
use Rattle.ts_make.proofs.CrlEncoded.{list-fields-short, list-parts-short}

-- an empty GeneralizedTime is no time of the next list
empty-next : (here : Place) (rest : List ℕ) → here.rest ≡ encode 0x18 [] ++ rest → next_update_at here ≡ Err (fault_at here.at TimeRule)
unfolding next_update_at optional_of time_of generalized_time_in numbers_in
empty-next here rest e =
    let one = element-only here 0x18 [] rest fits-empty e in
    let utc : begins_with 0x17 here.rest ≡ false = ap (begins_with 0x17) e in
    let general : begins_with 0x18 here.rest ≡ true = ap (begins_with 0x18) e in
    rw (utc, general, one) refl

fits-version : Fits 0x02 (1 ∷ [])
fits-version = record { octet = omega arith; low = omega arith; short = omega arith }

-- version 2 is read
version-read : (here : Place) (rest : List ℕ) → here.rest ≡ crl_version_octets V2 ++ rest → crl_version_at here ≡ Ok (V2, record { rest = rest; at = here.at + length (crl_version_octets V2) })
unfolding crl_version_at optional_at crl_version_of
version-read here rest e =
    let one = element-only here 0x02 (1 ∷ []) rest fits-version e in
    let there : begins_with 0x02 here.rest ≡ true = ap (begins_with 0x02) e in
    rw (there, one) refl

-- one of the moments lies outside the years 0 to 9999, and no earlier one does
abbrev pub IsOutsideCrl : CrlText → Type 0
IsOutsideCrl text = (IsInYears 0 9999 text.this_update → ⊥) ⊎ (IsInYears 0 9999 text.this_update × (IsInYears 0 9999 text.next_update → ⊥))

tbs-refused : (t n : List ℕ) (text : CrlText) (e : Tlv) → IsSayableCrl text → IsTimeOf t text.this_update → IsTimeOf n text.next_update → length (crl_tbs t n text) ≤ 4194304 → IsOutsideCrl text
    → e.content ≡ crl_content t n text → IsRefused (crl_tbs_of e)
unfolding crl_tbs_of crl_content
tbs-refused t n text e sayable from to le outside whole = by_moment outside
  where
    r5 : List ℕ
    r5 = revoked_octets t text.entries.now ++ crl_field (crl_extensions text)

    r4 : List ℕ
    r4 = n ++ r5

    r3 : List ℕ
    r3 = t ++ r4

    r2 : List ℕ
    r2 = name_octets text.issuer.now ++ r3

    r1 : List ℕ
    r1 = algorithm_identifier ++ r2

    p1 : Place
    p1 = record { rest = r1; at = e.start + length (crl_version_octets V2) }

    p2 : Place
    p2 = record { rest = r2; at = p1.at + length algorithm_identifier }

    p3 : Place
    p3 = record { rest = r3; at = p2.at + length (name_octets text.issuer.now) }

    p4 : Place
    p4 = record { rest = r4; at = p3.at + length t }

    by_moment : IsOutsideCrl text → IsRefused (crl_tbs_of e)
    by_moment (inl away) =
        let short = list-fields-short t n text le in
        let v = version-read (inside e) r1 whole in
        let a = algorithm-part.again p1 stand_in algorithm_identifier r2 algorithm-is refl in
        let i = name-part.again p2 (rdns_in text.issuer.now) (name_octets text.issuer.now) r3 (name-is text.issuer.now sayable.issuer short.issuer) refl in
        let u = empty-time p3 r4 (ap (λ (o : List ℕ). o ++ r4) (outside-is t text.this_update from away)) in
        (p3.at, rw (v, a, i, u) refl)
    by_moment (inr away) =
        let short = list-fields-short t n text le in
        let v = version-read (inside e) r1 whole in
        let a = algorithm-part.again p1 stand_in algorithm_identifier r2 algorithm-is refl in
        let i = name-part.again p2 (rdns_in text.issuer.now) (name_octets text.issuer.now) r3 (name-is text.issuer.now sayable.issuer short.issuer) refl in
        let said = time-said t text.this_update from away.0 short.issued in
        let u = time-part.again p3 said.time t r4 said.is refl in
        let x = empty-next p4 r5 (ap (λ (o : List ℕ). o ++ r5) (outside-is n text.next_update to away.1)) in
        (p4.at, rw (v, a, i, u, x) refl)

signed-refused : (t n : List ℕ) (text : CrlText) (e : Tlv) (rest : List ℕ) → IsSayableCrl text
    → IsTimeOf t text.this_update → IsTimeOf n text.next_update
    → length (crl_tbs t n text) ≤ 4194304 → IsOutsideCrl text
    → e.content ≡ crl_tbs t n text ++ rest → IsRefused (crl_signed_of e)
unfolding crl_signed_of crl_tbs
signed-refused t n text e rest sayable from to le outside whole =
    let short = list-fields-short t n text le in
    let first = element-only (inside e) 0x30 (crl_content t n text) rest (fits-sequence (crl_content t n text) short.content) whole in
    let fields = tbs-refused t n text (encoded_at e.start 0x30 (crl_content t n text)) sayable from to le outside refl in
    (fields.0, rw (first, fields.1) refl)

shape-refused : (t n : List ℕ) (text : CrlText) → IsSayableCrl text → IsTimeOf t text.this_update → IsTimeOf n text.next_update → length (made_crl t n text) ≤ 4194304 → IsOutsideCrl text
    → IsRefused (shape_of (made_crl t n text))
unfolding shape_of crl_whole_of made_crl
shape-refused t n text sayable from to le outside =
    let short = list-parts-short t n text le in
    let tbs = crl_tbs t n text in
    let rest = algorithm_identifier ++ bit_octets (sha256 (text.signer.now ++ tbs)) in
    let here : Place = record { rest = encode 0x30 (tbs ++ rest); at = 0 } in
    let small : ltb 4194304 (length (encode 0x30 (tbs ++ rest))) ≡ false = le-ltb 4194304 (length (encode 0x30 (tbs ++ rest))) le in
    let one = element-only here 0x30 (tbs ++ rest) [] (fits-sequence (tbs ++ rest) short.content) (sym (append-nil (encode 0x30 (tbs ++ rest)))) in
    let signed = signed-refused t n text (encoded_at 0 0x30 (tbs ++ rest)) rest sayable from to short.tbs outside refl in
    (signed.0, rw (small, one, signed.1) refl)

pub list-refused : (t n : List ℕ) (text : CrlText) → IsSayableCrl text → IsTimeOf t text.this_update → IsTimeOf n text.next_update → length (made_crl t n text) ≤ 4194304 → IsOutsideCrl text
    → (at : ℕ) × (crl_of (made_crl t n text) ≡ Err (broken (breaks at (Der TimeRule))))
unfolding crl_of
list-refused t n text sayable from to le outside =
    let s = shape-refused t n text sayable from to le outside in
    (s.0, rw s.1 refl)
