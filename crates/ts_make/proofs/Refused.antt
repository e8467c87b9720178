-- What is made of a moment outside the years 0 to 9999 is refused at its time.
use Rattle.std.proofs.Common.{◌≡◌, ℕ, ◌+◌, ◌≤◌, ◌⊎◌, inl, inr, false, ltb, List, [], ◌++◌, length, Result, Ok, Err, refl, sym, ap, ◌∙◌, arith, ℤ}
use Rattle.std.proofs.lemmas.Bool.{le-ltb}
use Rattle.std.proofs.lemmas.List.{append-nil}
use Rattle.ts_der.specs.declared.fault.DerFault.TheVariants.{TimeForm as TimeRule}
use Rattle.ts_der.specs.declared.fault.Fault.{Fault}
use Rattle.ts_der.specs.Element.{Place, Tlv, Fits, encode, inside, encoded_at}
use Rattle.ts_der.specs.Reading.{fault_at}
use Rattle.ts_der.proofs.Laws.{element-only, next-only}
use Rattle.ts_shape.specs.declared.fault.CertRule.TheVariants.{Der}
use Rattle.ts_shape.specs.declared.fault.CertFault.{CertFault}
use Rattle.ts_shape.specs.Fields.{within}
use Rattle.ts_field.specs.declared.time.TimeForm.{TimeForm}
use Rattle.ts_field.specs.declared.time.TimeForm.TheVariants.{Utc, General}
use Rattle.ts_field.specs.declared.time.Time.{Time}
use Rattle.ts_field.specs.Time.{IsTimeIn, IsTime, time_of, time_at}
use Rattle.ts_field.proofs.Algorithms.{algorithm-part}
use Rattle.ts_cert.specs.Reading.{validity_of, validity_at, tbs_of, signed_of, whole_of, certificate_of}
use Rattle.sha2.specs.Sha256.{sha256}
use Rattle.ts_sig.specs.StandIn.{algorithm_identifier}
use Rattle.ts_time.specs.Civil.{IsInYears}
use Rattle.ts_time.specs.Reading.{numbers_in, generalized_time_in}
use Rattle.ts_time.proofs.CivilLemmas.{IsInYears-wider}
use Rattle.ts_time.proofs.ReadingLemmas.{utc_in-only, general_in-only}
use Rattle.ts_cert.specs.declared.version.Version.TheVariants.{V3}
use Rattle.ts_shape.specs.Fault.{breaks}
use Rattle.ts_cert.specs.Encoding.{version_octets}
use Rattle.ts_shape.proofs.FieldParts.{integer-part}
use Rattle.ts_name.proofs.NameParts.{name-part}
use Rattle.ts_cert.proofs.Periods.{version-again}
use Rattle.ts_make.specs.declared.description.CertText.{CertText}
use Rattle.ts_make.specs.Serial.{serial_content}
use Rattle.ts_make.specs.Description.{rdns_in, stand_in}
use Rattle.ts_make.specs.Sayable.{IsSayable}
use Rattle.ts_make.specs.Extensions.{described_extensions, field_octets}
use Rattle.ts_make.specs.Times.{IsTimeOf}
use Rattle.ts_make.specs.Made.{bit_octets, name_octets, key_octets, tbs_content, tbs_octets, made_certificate}
use Rattle.ts_make.proofs.StandIns.{fits-sequence, algorithm-is}
use Rattle.ts_make.proofs.SerialNumbers.{serial-encoded}
use Rattle.ts_make.proofs.NameForms.{name-is}
use Rattle.ts_make.proofs.Said.{time-said}
use Rattle.ts_make.proofs.Encoded.{fields-short, parts-short}

-- ---- times

pub fits-empty : Fits 0x18 []
fits-empty = record { octet = omega arith; low = omega arith; short = omega arith }

-- an empty GeneralizedTime is no time
pub empty-time : (here : Place) (rest : List ℕ) → here.rest ≡ encode 0x18 [] ++ rest → time_at here ≡ Err (fault_at here.at TimeRule)
unfolding time_at time_of generalized_time_in numbers_in
empty-time here rest e =
    let one = next-only here 0x18 [] rest fits-empty e in
    rw one refl

-- a time is read
time-read : (f : TimeForm) (m : ℤ) (here : Place) (w rest : List ℕ) → IsTimeIn f w m → here.rest ≡ w ++ rest
    → time_at here ≡ Ok (record { form = f; moment = m }, record { rest = rest; at = here.at + length w })
unfolding time_at time_of
time-read Utc m here w rest is e =
    let one = next-only here 0x17 is.content rest is.fits (e ∙ ap (λ (o : List ℕ). o ++ rest) is.encoded) in
    rw (one, utc_in-only is.content m is.value) (ap (λ (o : List ℕ). Ok (record { form = Utc; moment = m }, record { rest = rest; at = here.at + length o })) (sym is.encoded))
time-read General m here w rest is e =
    let one = next-only here 0x18 is.content rest is.fits (e ∙ ap (λ (o : List ℕ). o ++ rest) is.encoded) in
    rw (one, general_in-only is.content m is.value) (ap (λ (o : List ℕ). Ok (record { form = General; moment = m }, record { rest = rest; at = here.at + length o })) (sym is.encoded))

-- reading breaks off at a time
abbrev BreaksOff : {A : Type 0} → Result A Fault → Type 0
BreaksOff {A} reading = (at : ℕ) × (reading ≡ Err (fault_at at TimeRule))

-- a period whose first time is empty, or whose second is
first-refused : (e : Tlv) (a : List ℕ) → e.content ≡ encode 0x18 [] ++ a → BreaksOff (validity_of e)
unfolding validity_of
first-refused e a whole = (e.start, rw (empty-time (inside e) a whole) refl)

second-refused : (e : Tlv) (b : List ℕ) (t : Time) → IsTime b t → e.content ≡ b ++ encode 0x18 [] → BreaksOff (validity_of e)
unfolding validity_of
second-refused e b t is whole =
    let first = time-read t.form t.moment (inside e) b (encode 0x18 []) is whole in
    let behind : Place = record { rest = encode 0x18 []; at = e.start + length b } in
    let second = empty-time behind [] (sym (append-nil (encode 0x18 []))) in
    (e.start + length b, rw (first, second) refl)

pub outside-is : (octets : List ℕ) (m : ℤ) → IsTimeOf octets m → (IsInYears 0 9999 m → ⊥) → octets ≡ encode 0x18 []
outside-is octets m is outside = is.outside (λ utc. outside (IsInYears-wider 1950 2049 m (omega arith) utc)) outside

-- one of the moments lies outside the years 0 to 9999, and no earlier one does
abbrev pub IsOutside : CertText → Type 0
IsOutside text = (IsInYears 0 9999 text.from → ⊥) ⊎ (IsInYears 0 9999 text.from × (IsInYears 0 9999 text.to → ⊥))

validity-refused : (b a : List ℕ) (text : CertText) (e : Tlv) → IsTimeOf b text.from → IsTimeOf a text.to → length b ≤ 4194304 → IsOutside text → e.content ≡ b ++ a → BreaksOff (validity_of e)
validity-refused b a text e from to le (inl outside) whole = first-refused e a (whole ∙ ap (λ (o : List ℕ). o ++ a) (outside-is b text.from from outside))
validity-refused b a text e from to le (inr outside) whole =
    let t = time-said b text.from from outside.0 le in
    second-refused e b t.time t.is (whole ∙ ap (λ (o : List ℕ). b ++ o) (outside-is a text.to to outside.1))

-- ---- the certificate

-- the same as a fault of a certificate
abbrev pub IsRefused : {A : Type 0} → Result A CertFault → Type 0
IsRefused {A} reading = (at : ℕ) × (reading ≡ Err (breaks at (Der TimeRule)))

tbs-refused : (b a : List ℕ) (text : CertText) (e : Tlv) → IsSayable text → IsTimeOf b text.from → IsTimeOf a text.to → length (tbs_octets b a text) ≤ 4194304 → IsOutside text
    → e.content ≡ tbs_content b a text → IsRefused (tbs_of e)
unfolding tbs_of tbs_content validity_at within
tbs-refused b a text e sayable from to le outside whole =
    let short = fields-short b a text le in
    let r6 : List ℕ = key_octets text.key.now ++ field_octets (described_extensions text.extensions.now) in
    let r5 : List ℕ = name_octets text.subject.now ++ r6 in
    let r4 : List ℕ = encode 0x30 (b ++ a) ++ r5 in
    let r3 : List ℕ = name_octets text.issuer.now ++ r4 in
    let r2 : List ℕ = algorithm_identifier ++ r3 in
    let r1 : List ℕ = encode 0x02 (serial_content text.serial) ++ r2 in
    let v = version-again (inside e) V3 r1 refl whole in
    let p1 : Place = record { rest = r1; at = e.start + length (version_octets V3) } in
    let s = integer-part.again p1 (serial_content text.serial) (encode 0x02 (serial_content text.serial)) r2 (serial-encoded text.serial sayable.serial short.serial) refl in
    let p2 : Place = record { rest = r2; at = p1.at + length (encode 0x02 (serial_content text.serial)) } in
    let g = algorithm-part.again p2 stand_in algorithm_identifier r3 algorithm-is refl in
    let p3 : Place = record { rest = r3; at = p2.at + length algorithm_identifier } in
    let i = name-part.again p3 (rdns_in text.issuer.now) (name_octets text.issuer.now) r4 (name-is text.issuer.now sayable.issuer short.issuer) refl in
    let p4 : Place = record { rest = r4; at = p3.at + length (name_octets text.issuer.now) } in
    let outer = element-only p4 0x30 (b ++ a) r5 (fits-sequence (b ++ a) short.times) refl in
    let period = validity-refused b a text (encoded_at p4.at 0x30 (b ++ a)) from to short.before outside refl in
    (period.0, rw (v, s, g, i, outer, period.1) refl)

signed-refused : (b a : List ℕ) (text : CertText) (e : Tlv) (rest : List ℕ) → IsSayable text → IsTimeOf b text.from → IsTimeOf a text.to → length (tbs_octets b a text) ≤ 4194304 → IsOutside text
    → e.content ≡ tbs_octets b a text ++ rest → IsRefused (signed_of e)
unfolding signed_of tbs_octets
signed-refused b a text e rest sayable from to le outside whole =
    let short = fields-short b a text le in
    let first = element-only (inside e) 0x30 (tbs_content b a text) rest (fits-sequence (tbs_content b a text) short.content) whole in
    let fields = tbs-refused b a text (encoded_at e.start 0x30 (tbs_content b a text)) sayable from to le outside refl in
    (fields.0, rw (first, fields.1) refl)

pub certificate-refused : (b a : List ℕ) (text : CertText) → IsSayable text → IsTimeOf b text.from → IsTimeOf a text.to → length (made_certificate b a text) ≤ 65536 → IsOutside text
    → IsRefused (certificate_of (made_certificate b a text))
unfolding certificate_of whole_of made_certificate
certificate-refused b a text sayable from to le outside =
    let short = parts-short b a text (omega arith) in
    let tbs = tbs_octets b a text in
    let rest = algorithm_identifier ++ bit_octets (sha256 (text.signer.now ++ tbs)) in
    let here : Place = record { rest = encode 0x30 (tbs ++ rest); at = 0 } in
    let small : ltb 65536 (length (encode 0x30 (tbs ++ rest))) ≡ false = le-ltb 65536 (length (encode 0x30 (tbs ++ rest))) le in
    let one = element-only here 0x30 (tbs ++ rest) [] (fits-sequence (tbs ++ rest) short.content) (sym (append-nil (encode 0x30 (tbs ++ rest)))) in
    let signed = signed-refused b a text (encoded_at 0 0x30 (tbs ++ rest)) rest sayable from to short.tbs outside refl in
    (signed.0, rw (small, one, signed.1) refl)
