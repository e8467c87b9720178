-- Parts of a certificate that was read, where they begin.
use Rattle.std.proofs.Common.{◌≡◌, ℕ, ◌+◌, ◌-◌, ◌≤◌, false, true, eqb, List, ◌++◌, length, take, drop, Option, Some, None, Result, Ok, Err, refl, sym, ap, subst, ◌∙◌}
use Rattle.std.specs.Prelude.{map, option_map, IsOkAnd}
use Rattle.std.specs.Result.{result_ok, result_unwrap_or}
use Rattle.std.proofs.lemmas.Bool.{false≢true}
use Rattle.ts_der.specs.declared.fault.Fault.{Fault}
use Rattle.ts_der.specs.Answer.{◌>>=◌, refusal}
use Rattle.ts_der.specs.Element.{Place, Tlv, Fits, StandsAt, encode, encoded_at, inside}
use Rattle.ts_der.specs.Reading.{begins_with, optional_at, many}
use Rattle.ts_der.specs.View.{now}
use Rattle.ts_der.specs.declared.reader.Element.{Element}
use Rattle.ts_der.proofs.Unique.{one-element}
use Rattle.ts_der.proofs.Laws.{bind_ok, ok_is, err_not_ok, element-only}
use Rattle.ts_name.specs.Canon.{Attr}
use Rattle.ts_shape.specs.Fields.{Within, IfAny, IsInteger, IsBits, optional_of}
use Rattle.ts_shape.specs.Items.{items_at}
use Rattle.ts_name.specs.NameEncoding.{IsName}
use Rattle.ts_name.specs.Names.{name_of, rdn_at}
use Rattle.ts_shape.proofs.ItemParts.{some-walked}
use Rattle.ts_name.proofs.Shapes.{name-again}
use Rattle.ts_shape.proofs.OptionalParts.{begins-within, begins-other, begins-if-any, optional-again}
use Rattle.ts_shape.proofs.Parts.{Value, Part}
use Rattle.ts_extensions.specs.Extension.{Extension, Located, unlocated, located_in, all_located_of, AreExtensions, AreExplicit}
use Rattle.ts_extensions.proofs.ExtensionParts.{extensions-format}
use Rattle.ts_extensions.proofs.Unlocated.{extensions-see}
use Rattle.ts_field.specs.Algorithm.{IsAlgorithm}
use Rattle.ts_cert.specs.declared.layout.Layout.{Layout}
use Rattle.ts_cert.specs.Certificate.{Certificate}
use Rattle.ts_cert.specs.CertView.{certificate_in, no_certificate}
use Rattle.ts_cert.specs.Layout.{Lies, AreLaidOut}
use Rattle.ts_cert.specs.inside.Layout.{HoldsEncoding, HoldsEncodingIfAny}
use Rattle.ts_cert.specs.Reading.{certificate_of}
use Rattle.ts_cert.specs.inside.AllLocated.{all_located_within}
use Rattle.ts_cert.specs.Encoding.{IsValidity, IsKeyInfo, IsUniqueIdentifier, IsCertificate}
use Rattle.ts_shape.specs.declared.fault.CertFault.{CertFault}
use Rattle.ts_cert.proofs.Certificates.{certificate-again}
use Rattle.ts_cert.proofs.Spanned.{part-ordered, part-between}

-- ---- what is read of a part

-- where the encoding of a value begins, that is read
pub read-there : {A E : Type 0} {read : Place → Result (A × Place) E} {Encodes : List ℕ → A → Type 0} → Part read Encodes → (octets : List ℕ) (at : ℕ) (x : A) → HoldsEncoding Encodes octets at x
    → (after : Place) × (read (record { rest = drop at octets; at = at }) ≡ Ok (x, after))
read-there part octets at x h = (record { rest = h.rest; at = at + length h.part }, part.again (record { rest = drop at octets; at = at }) x h.part h.rest h.encoded h.here)

-- and nothing else
pub only-there : {A E : Type 0} {read : Place → Result (A × Place) E}
    {Encodes : List ℕ → A → Type 0} → Part read Encodes → (octets : List ℕ) (at : ℕ) (place : Place)
    → place ≡ record { rest = drop at octets; at = at }
    → (y : A) (after : Place) → read place ≡ Ok (y, after) → (x : A) → HoldsEncoding Encodes octets at x → y ≡ x
only-there {A} {E} {read} part octets at place is y after taken x h =
    let there = read-there part octets at x h in
    ap (λ (p : A × Place). p.0) (ok_is {A = A × Place} {E = E} (y, after) (x, there.0) (sym taken ∙ (ap read is ∙ there.1)))

-- it is not refused
pub never-refused : {A E : Type 0} {read : Place → Result (A × Place) E}
    {Encodes : List ℕ → A → Type 0} → Part read Encodes → (octets : List ℕ) (at : ℕ) (place : Place)
    → place ≡ record { rest = drop at octets; at = at }
    → (f : E) → read place ≡ Err f → (x : A) → HoldsEncoding Encodes octets at x → ⊥
never-refused {A} {E} {read} part octets at place is f refused x h = err_not_ok {E = E} (sym refused ∙ (ap read is ∙ (read-there part octets at x h).1))

-- the same for a field that may be absent
pub read-if-there : {A : Type 0} {tag : ℕ} {value : Tlv → Result A Fault}
    {Encodes : List ℕ → A → Type 0} → Value tag value Encodes
    → (octets : List ℕ) (at : ℕ) (place : Place) → place ≡ record { rest = drop at octets; at = at }
    → (x : Option A) → HoldsEncodingIfAny tag Encodes octets at x → (after : Place) × (optional_of tag value place ≡ Ok (x, after))
read-if-there {A} {tag} {value} {Encodes} v octets at place is x h = (
  record { rest = h.rest; at = at + length h.part },
  ap (optional_of tag value) is
      ∙ optional-again tag value Encodes v (record { rest = drop at octets; at = at }) x h.part
      h.rest h.encoded h.other h.here,
)

pub only-if-there : {A : Type 0} {tag : ℕ} {value : Tlv → Result A Fault}
    {Encodes : List ℕ → A → Type 0} → Value tag value Encodes
    → (octets : List ℕ) (at : ℕ) (place : Place) → place ≡ record { rest = drop at octets; at = at }
    → (y : Option A) (after : Place) → optional_of tag value place ≡ Ok (y, after) → (x : Option A) → HoldsEncodingIfAny tag Encodes octets at x → y ≡ x
only-if-there {A} v octets at place is y after taken x h =
    let there = read-if-there v octets at place is x h in
    ap (λ (p : Option A × Place). p.0) (ok_is {A = Option A × Place} {E = Fault} (y, after) (x, there.0) (sym taken ∙ there.1))

pub never-refused-if : {A : Type 0} {tag : ℕ} {value : Tlv → Result A Fault}
    {Encodes : List ℕ → A → Type 0} → Value tag value Encodes
    → (octets : List ℕ) (at : ℕ) (place : Place) → place ≡ record { rest = drop at octets; at = at }
    → (f : Fault) → optional_of tag value place ≡ Err f → (x : Option A) → HoldsEncodingIfAny tag Encodes octets at x → ⊥
never-refused-if v octets at place is f refused x h = err_not_ok {E = Fault} (sym refused ∙ (read-if-there v octets at place is x h).1)

-- a name, of which only the element is read
pub name-there : (e : Tlv) (octets : List ℕ) (at : ℕ) (x : List (List Attr))
    (h : HoldsEncoding (Within 0x30 IsName) octets at x) (start : ℕ)
    → e ≡ encoded_at start 0x30 h.encoded.content → many rdn_at (inside e) ≡ Ok x
unfolding name_of
name-there e octets at x h start is = name-again e x (subst (λ (o : List ℕ). IsName o x) (sym (ap (λ (t : Tlv). t.content) is)) h.encoded.value)

-- the extensions within their SEQUENCE
pub extensions-there : (e : Tlv) (xs : List Extension) → AreExtensions e.content xs → map unlocated (items_at located_in (inside e)) ≡ xs
extensions-there e xs are =
    let seen : (all_located_of e >>= λ ys. Ok (map unlocated ys)) ≡ Ok xs = sym (extensions-see e) ∙ extensions-format.again e xs are in
    let s = bind_ok (all_located_of e) (λ ys. Ok (map unlocated ys)) xs seen in
    let walked = some-walked located_in e (sym (ap (λ (r : Result (List Located) Fault). refusal r) s.1)) in
    ap (λ (ys : List Located). map unlocated ys)
    (ok_is {A = List Located} {E = Fault} (items_at located_in (inside e)) s.0
    (sym walked ∙ s.1)) ∙ ok_is {A = List Extension} {E = Fault} (map unlocated s.0) xs s.2

-- where no explicit tag is there are none
pub none-there : (octets : List ℕ) (at : ℕ) (x : Option (List Extension)) → HoldsEncodingIfAny 0xA3 AreExplicit octets at x → begins_with 0xA3 (drop at octets) ≡ false → x ≡ None
none-there octets at None h other = refl
none-there octets at (Some xs) h other = absurd (false≢true (sym other ∙ (ap (λ (o : List ℕ). begins_with 0xA3 o) h.here ∙ begins-within h.encoded h.rest)))

-- what follows the tag that is there
pub explicit-there : (octets : List ℕ) (at : ℕ) (place : Place) (e : Tlv) (after : Place) → place.rest ≡ drop at octets → StandsAt place e after → e.tag ≡ 0xA3
    → (x : Option (List Extension)) → HoldsEncodingIfAny 0xA3 AreExplicit octets at x → (xs : List Extension) × (x ≡ Some xs) × AreExplicit e.content xs
explicit-there octets at place e after is stands tag x h =
    by_cases x h.encoded (sym h.here
    ∙ (sym is ∙ (stands.whole
    ∙ ap (λ (w : List ℕ). w ++ after.rest)
    (stands.encoded ∙ ap (λ (t : ℕ). encode t e.content) tag))))
  where
    by_cases : (x : Option (List Extension)) → IfAny 0xA3 AreExplicit h.part x → h.part
        ++ h.rest ≡ encode 0xA3 e.content ++ after.rest → (xs : List Extension) × (x ≡ Some xs)
        × AreExplicit e.content xs
    by_cases None none whole =
        let other : begins_with 0xA3 (h.part ++ h.rest) ≡ false = ap (λ (p : List ℕ). begins_with 0xA3 (p ++ h.rest)) none ∙ h.other in
        absurd (false≢true (sym other ∙ ap (λ (o : List ℕ). begins_with 0xA3 o) whole))
    by_cases (Some xs) within whole =
        let same = one-element 0xA3 0xA3 within.content e.content h.rest after.rest within.fits
        (subst (λ (t : ℕ). Fits t e.content) tag stands.fits)
        (ap (λ (w : List ℕ). w ++ h.rest) (sym within.encoded) ∙ whole) in
        (xs, refl, subst (λ (o : List ℕ). AreExplicit o xs) same.1 within.value)

-- it is not refused
pub explicit-never-refused : (octets : List ℕ) (at : ℕ) (place : Place)
    → place ≡ record { rest = drop at octets; at = at } → (f : Fault)
    → optional_at 0xA3 place ≡ Err f → (x : Option (List Extension))
    → HoldsEncodingIfAny 0xA3 AreExplicit octets at x → ⊥
unfolding optional_at
explicit-never-refused octets at place is f refused None h =
    let other : begins_with 0xA3 (drop at octets) ≡ false = ap (λ (o : List ℕ). begins_with 0xA3 o) h.here ∙ (ap (λ (p : List ℕ). begins_with 0xA3 (p ++ h.rest)) h.encoded ∙ h.other) in
    let read : optional_at 0xA3 (record { rest = drop at octets; at = at }) ≡ Ok (None, record { rest = drop at octets; at = at }) = rw other refl in
    err_not_ok {E = Fault} (sym refused ∙ (ap (optional_at 0xA3) is ∙ read))
explicit-never-refused octets at place is f refused (Some xs) h =
    let begins : begins_with 0xA3 (drop at octets) ≡ true = ap (λ (o : List ℕ). begins_with 0xA3 o) h.here ∙ begins-within h.encoded h.rest in
    let one = element-only (record { rest = drop at octets; at = at }) 0xA3 h.encoded.content h.rest h.encoded.fits (h.here ∙ ap (λ (p : List ℕ). p ++ h.rest) h.encoded.encoded) in
    let after : Place = record { rest = h.rest; at = at + length (encode 0xA3 h.encoded.content) } in
    let read : optional_at 0xA3 (record { rest = drop at octets; at = at }) ≡ Ok (Some (encoded_at at 0xA3 h.encoded.content), after) = rw (begins, one) refl in
    err_not_ok {E = Fault} (sym refused ∙ (ap (optional_at 0xA3) is ∙ read))

-- the SEQUENCE after it
pub list-there : (r : Result Element Fault) (start : ℕ) (content : List ℕ) (xs : List Extension) → IsOkAnd r (λ e. now e ≡ encoded_at start 0x30 content) → AreExtensions content xs
    → option_map (map unlocated) (option_map all_located_within (result_ok r)) ≡ Some xs
list-there (Ok e) start content xs is are =
    let here : AreExtensions e.content.now xs = subst (λ (o : List ℕ). AreExtensions o xs) (sym (ap (λ (t : Tlv). t.content) is)) are in
    ap (λ (ys : List Extension). Some ys) (extensions-there (now e) xs here)
list-there (Err f) start content xs is are = absurd is

-- ---- the parts

-- the certificate that the octets are
pub same-certificate : (octets : List ℕ) (l : Layout) (laid : AreLaidOut octets l) → laid.0 ≡ certificate_in octets
same-certificate octets l laid = sym (ap (λ (r : Result Certificate CertFault). result_unwrap_or r no_certificate) (certificate-again octets laid.0 laid.1))

-- octets that are laid out are a certificate
pub is-certificate : (octets : List ℕ) (l : Layout) → AreLaidOut octets l → IsCertificate octets (certificate_in octets)
is-certificate octets l laid = subst (λ (c : Certificate). IsCertificate octets c) (same-certificate octets l laid) laid.1

pub is-read : (octets : List ℕ) (l : Layout) → AreLaidOut octets l → certificate_of octets ≡ Ok (certificate_in octets)
is-read octets l laid = certificate-again octets (certificate_in octets) (is-certificate octets l laid)

holds : {A : Type 0} {Encodes : List ℕ → A → Type 0} {octets part : List ℕ} {at to : ℕ} {x : A} → Lies octets at part to → Encodes part x → HoldsEncoding Encodes octets at x
holds {A} {Encodes} {octets} {part} {at} {to} lies is = record { part = part; rest = drop to octets; here = lies.here; encoded = is; begins = lies.begins }

-- what holds of the certificate that was read holds of the one that the octets are
of_octets : (octets : List ℕ) (l : Layout) (P : Certificate → Type 0) (laid : AreLaidOut octets l) → P laid.0 → P (certificate_in octets)
of_octets octets l P laid p = subst P (same-certificate octets l laid) p

pub tbs-ordered : (octets : List ℕ) (l : Layout) → AreLaidOut octets l → l.tbs ≤ l.signature_algorithm
tbs-ordered octets l laid = part-ordered octets laid.0.tbs l.tbs l.signature_algorithm laid.2.tbs.here laid.2.tbs.begins laid.2.signature_algorithm.begins

pub tbs-within : (octets : List ℕ) (l : Layout) → AreLaidOut octets l → l.signature_algorithm ≤ length octets
tbs-within octets l laid = laid.2.signature_algorithm.begins

pub tbs-between : (octets : List ℕ) (l : Layout) → AreLaidOut octets l → take (l.signature_algorithm - l.tbs) (drop l.tbs octets) ≡ (certificate_in octets).tbs
tbs-between octets l laid =
    part-between octets laid.0.tbs l.tbs l.signature_algorithm laid.2.tbs.here laid.2.tbs.begins laid.2.signature_algorithm.begins ∙ ap (λ (c : Certificate). c.tbs) (same-certificate octets l laid)

pub version : (octets : List ℕ) (l : Layout) → AreLaidOut octets l → l.version ≡ (certificate_in octets).tbsCertificate.version
version octets l laid = of_octets octets l (λ c. l.version ≡ c.tbsCertificate.version) laid laid.2.fields.version

pub serial_number : (octets : List ℕ) (l : Layout) → AreLaidOut octets l → HoldsEncoding (Within 0x02 IsInteger) octets l.serial_number (certificate_in octets).tbsCertificate.serialNumber
serial_number octets l laid =
    of_octets octets l (λ c. HoldsEncoding (Within 0x02 IsInteger) octets l.serial_number
    c.tbsCertificate.serialNumber) laid
    (holds laid.2.fields.serial_number laid.1.whole.value.tbsCertificate.value.serialNumber)

pub issuer : (octets : List ℕ) (l : Layout) → AreLaidOut octets l → HoldsEncoding (Within 0x30 IsName) octets l.issuer (certificate_in octets).tbsCertificate.issuer
issuer octets l laid =
    of_octets octets l (λ c. HoldsEncoding (Within 0x30 IsName) octets l.issuer
    c.tbsCertificate.issuer) laid
    (holds laid.2.fields.issuer laid.1.whole.value.tbsCertificate.value.issuer)

pub validity : (octets : List ℕ) (l : Layout) → AreLaidOut octets l → HoldsEncoding (Within 0x30 IsValidity) octets l.validity (certificate_in octets).tbsCertificate.validity
validity octets l laid =
    of_octets octets l (λ c. HoldsEncoding (Within 0x30 IsValidity) octets l.validity
    c.tbsCertificate.validity) laid
    (holds laid.2.fields.validity laid.1.whole.value.tbsCertificate.value.validity)

pub subject : (octets : List ℕ) (l : Layout) → AreLaidOut octets l → HoldsEncoding (Within 0x30 IsName) octets l.subject (certificate_in octets).tbsCertificate.subject
subject octets l laid =
    of_octets octets l (λ c. HoldsEncoding (Within 0x30 IsName) octets l.subject
    c.tbsCertificate.subject) laid
    (holds laid.2.fields.subject laid.1.whole.value.tbsCertificate.value.subject)

pub subject_public_key_info : (octets : List ℕ) (l : Layout) → AreLaidOut octets l
    → HoldsEncoding (Within 0x30 IsKeyInfo) octets l.subject_public_key_info
    (certificate_in octets).tbsCertificate.subjectPublicKeyInfo
subject_public_key_info octets l laid =
    of_octets octets l (λ c. HoldsEncoding (Within 0x30 IsKeyInfo) octets l.subject_public_key_info
    c.tbsCertificate.subjectPublicKeyInfo) laid
    (holds laid.2.fields.subject_public_key_info
    laid.1.whole.value.tbsCertificate.value.subjectPublicKeyInfo)

pub signature_algorithm : (octets : List ℕ) (l : Layout) → AreLaidOut octets l → HoldsEncoding (Within 0x30 IsAlgorithm) octets l.signature_algorithm (certificate_in octets).signatureAlgorithm
signature_algorithm octets l laid =
    of_octets octets l (λ c. HoldsEncoding (Within 0x30 IsAlgorithm) octets l.signature_algorithm
    c.signatureAlgorithm) laid
    (holds laid.2.signature_algorithm laid.1.whole.value.signatureAlgorithm)

pub signature_value : (octets : List ℕ) (l : Layout) → AreLaidOut octets l → HoldsEncoding (Within 0x03 IsBits) octets l.signature_value (certificate_in octets).signatureValue
signature_value octets l laid =
    of_octets octets l (λ c. HoldsEncoding (Within 0x03 IsBits) octets l.signature_value
    c.signatureValue) laid (holds laid.2.signature_value laid.1.whole.value.signatureValue)

-- ---- those that may be absent

-- after the extensions stands the algorithm of the signature
no-other-algorithm : (octets : List ℕ) (l : Layout) (laid : AreLaidOut octets l) (tag : ℕ) → eqb 0x30 tag ≡ false → begins_with tag (drop l.signature_algorithm octets) ≡ false
no-other-algorithm octets l laid tag differs =
    ap (λ (o : List ℕ). begins_with tag o) laid.2.signature_algorithm.here ∙ begins-other laid.1.whole.value.signatureAlgorithm tag differs (drop l.signature_value octets)

no-other-extensions : (octets : List ℕ) (l : Layout) (laid : AreLaidOut octets l) (tag : ℕ) → eqb 0xA3 tag ≡ false → eqb 0x30 tag ≡ false → begins_with tag (drop l.extensions octets) ≡ false
no-other-extensions octets l laid tag differs last =
    let f = laid.1.whole.value.tbsCertificate.value in
    ap (λ (o : List ℕ). begins_with tag o) laid.2.fields.extensions.here
    ∙ begins-if-any 0xA3 AreExplicit f.last laid.0.tbsCertificate.extensions f.extensions tag differs (drop l.signature_algorithm octets) (no-other-algorithm octets l laid tag last)

no-other-subject : (octets : List ℕ) (l : Layout) (laid : AreLaidOut octets l) → begins_with 0x81 (drop l.subject_unique_id octets) ≡ false
no-other-subject octets l laid =
    let f = laid.1.whole.value.tbsCertificate.value in
    ap (λ (o : List ℕ). begins_with 0x81 o) laid.2.fields.subject_unique_id.here
    ∙ begins-if-any 0x82 IsUniqueIdentifier f.subject_id laid.0.tbsCertificate.subjectUniqueID f.subjectUniqueID 0x81 refl (drop l.extensions octets) (no-other-extensions octets l laid 0x81 refl refl)

holds-if-any : {A : Type 0} {tag : ℕ} {Encodes : List ℕ → A → Type 0} {octets part : List ℕ}
    {at to : ℕ} {x : Option A} → Lies octets at part to → IfAny tag Encodes part x
    → begins_with tag (drop to octets) ≡ false → HoldsEncodingIfAny tag Encodes octets at x
holds-if-any {A} {tag} {Encodes} {octets} {part} {at} {to} lies is other = record { part = part; rest = drop to octets; here = lies.here; encoded = is; other = other; begins = lies.begins }

pub issuer_unique_id : (octets : List ℕ) (l : Layout) → AreLaidOut octets l → HoldsEncodingIfAny 0x81 IsUniqueIdentifier octets l.issuer_unique_id (certificate_in octets).tbsCertificate.issuerUniqueID
issuer_unique_id octets l laid =
    of_octets octets l (λ c. HoldsEncodingIfAny 0x81 IsUniqueIdentifier octets l.issuer_unique_id c.tbsCertificate.issuerUniqueID) laid
    (holds-if-any laid.2.fields.issuer_unique_id laid.1.whole.value.tbsCertificate.value.issuerUniqueID (no-other-subject octets l laid))

pub subject_unique_id : (octets : List ℕ) (l : Layout) → AreLaidOut octets l
    → HoldsEncodingIfAny 0x82 IsUniqueIdentifier octets l.subject_unique_id
    (certificate_in octets).tbsCertificate.subjectUniqueID
subject_unique_id octets l laid =
    of_octets octets l (λ c. HoldsEncodingIfAny 0x82 IsUniqueIdentifier octets l.subject_unique_id c.tbsCertificate.subjectUniqueID) laid
    (holds-if-any laid.2.fields.subject_unique_id laid.1.whole.value.tbsCertificate.value.subjectUniqueID (no-other-extensions octets l laid 0x82 refl refl))

pub extensions : (octets : List ℕ) (l : Layout) → AreLaidOut octets l → HoldsEncodingIfAny 0xA3 AreExplicit octets l.extensions (certificate_in octets).tbsCertificate.extensions
extensions octets l laid =
    of_octets octets l (λ c. HoldsEncodingIfAny 0xA3 AreExplicit octets l.extensions c.tbsCertificate.extensions) laid
    (holds-if-any laid.2.fields.extensions laid.1.whole.value.tbsCertificate.value.extensions (no-other-algorithm octets l laid 0xA3 refl))
