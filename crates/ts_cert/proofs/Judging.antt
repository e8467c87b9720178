-- What reading a certificate refuses is the first rule of the table that is broken.
use Rattle.std.proofs.Common.{◌≡◌, ◌≢◌, ◌<◌, ◌≤◌, ltb, inl, inr, ℕ, ◌+◌, Bool, true, false, not}
use Rattle.std.proofs.Common.{◌||◌, cond, eqb, List, [], ◌∷◌, length, take, drop, Option, Some}
use Rattle.std.proofs.Common.{None, Result, Ok, Err, refl, sym, ap, subst, ◌∙◌, arith}
use Rattle.std.specs.Prelude.{option_map, nat_lt}
use Rattle.std.proofs.lemmas.Bool.{eqb-true, lt-ltb}
use Rattle.std.proofs.lemmas.List.{length-take-le, length-drop}
use Rattle.std.proofs.lemmas.Slice.Eq.{bytes_eq-Decides}
use Rattle.std.specs.Str.{bytes_eq}
use Rattle.ts_der.proofs.Headers.{HasHeader, has_header}
use Rattle.ts_der.specs.declared.fault.DerFault.TheVariants.{DefaultEncoded, TooLarge}
use Rattle.ts_der.specs.declared.fault.Fault.{Fault}
use Rattle.ts_der.specs.Answer.{◌>>=◌, Answers, refusal}
use Rattle.ts_der.specs.Rules.{first_broken}
use Rattle.ts_der.specs.Element.{Place, Tlv, inside, encode, length_octets}
use Rattle.ts_der.specs.Header.{tag_of, header_size, length_of, header_rules}
use Rattle.ts_der.specs.Reading.{element_of, behind, element_at, optional_at, value_at, end_at, begins_with}
use Rattle.ts_der.specs.BitString.{bits_rules}
use Rattle.ts_der.specs.Integer.{integer_rules}
use Rattle.ts_shape.specs.declared.fault.CertRule.{CertRule}
use Rattle.ts_shape.specs.declared.fault.CertRule.TheVariants.{Der, Version as VersionRule, AlgorithmMismatch}
use Rattle.ts_shape.specs.declared.fault.CertFault.{CertFault}
use Rattle.ts_shape.specs.Fault.{der, breaks}
use Rattle.ts_shape.specs.Fields.{integer_at, bits_at, optional_of}
use Rattle.ts_name.specs.Names.{name_at}
use Rattle.ts_shape.specs.Rows.{object_identifier, integer, bit_string}
use Rattle.ts_name.specs.NameRows.{name}
use Rattle.ts_field.specs.Time.{time_at}
use Rattle.ts_field.specs.Algorithm.{algorithm_of, algorithm_at}
use Rattle.ts_field.specs.Table.{algorithm_identifier, time, from_front}
use Rattle.ts_field.proofs.Judging.{algorithm-judged, algorithm-reads, time-reads}
use Rattle.ts_cert.specs.declared.version.Version.{Version}
use Rattle.ts_cert.specs.declared.version.Version.TheVariants.{V1, V2, V3}
use Rattle.ts_cert.specs.Version.{version_named, version_integer, not_default, version_of, version_if, version_at}
use Rattle.ts_cert.specs.Certificate.{Certificate}
use Rattle.ts_cert.specs.Rules.{OptionalFields, LocatedTbs, extensions_fault}
use Rattle.ts_cert.specs.Table.{validity, subject_public_key_info, is_version, version_rules}
use Rattle.ts_cert.specs.Table.{version_number, default_rules, version, unique_identifier}
use Rattle.ts_cert.specs.Table.{tbs_certificate, certificate, nth, signature_element}
use Rattle.ts_cert.specs.Table.{signature_algorithm_element, algorithms_fault, fields_fault}
use Rattle.ts_cert.specs.Table.{certificate_fault}
use Rattle.ts_shape.specs.Shape.{any, optional, tagged, no_other, Shape, nothing, plain, ◌then◌, ◌or_else◌, header_fault, row_fault, judge, der_rules, no_rules, one_rule}
use Rattle.ts_shape.proofs.OptionalParts.{optional-judged}
use Rattle.ts_extensions.specs.Extension.{explicit_extensions, explicit_all_located_of}
use Rattle.ts_extensions.proofs.ExtensionParts.{explicit_all_located-judged}
use Rattle.ts_cert.proofs.KeyParts.{unique_identifier-format}
use Rattle.ts_shape.proofs.Judging.{Judged, refusal-judged, bind, no_more, no_less, Headed}
use Rattle.ts_shape.proofs.Judging.{element-judged, Reads, within-reads, then-judged, end-judged}
use Rattle.ts_shape.proofs.Judging.{under, ends, value-judged, Whatever, integer-reads, bits-reads}
use Rattle.ts_shape.proofs.Judging.{regroup}
use Rattle.ts_name.proofs.NameJudging.{name-reads}
use Rattle.ts_cert.specs.Reading.{validity_of, validity_at, key_of, key_at, unique_identifier_of}
use Rattle.ts_cert.specs.Reading.{optional_fields_at, tbs_of, UncheckedCertificate, signed_of}
use Rattle.ts_cert.specs.Reading.{with_one_algorithm, unless_broken, whole_of, certificate_of}

-- ---- periods

validity-judged : (e : Tlv) → Judged (der (validity_of e)) (judge (time then time then nothing) (inside e) or_else None) (λ v. Unit {0})
unfolding validity_of
validity-judged e =
    no_more _ _ _
    (under (time_at (inside e)) _ _ _
    (then-judged time (time then nothing) (inside e) (λ here. der (time_at here)) _ Whatever _ refl time-reads (λ before p.
    under (time_at (behind (inside e))) _ _ _
    (then-judged time nothing (behind (inside e)) (λ here. der (time_at here)) _ Whatever _ refl time-reads (λ after q. ends (behind (behind (inside e))) _ _ (λ h. tt))))))

validity-reads : Reads validity (λ here. der (validity_at here)) Whatever
unfolding validity_at
validity-reads = within-reads 0x30 (time then time then nothing) no_rules validity_of Whatever validity-judged

-- ---- the subject's public key

key-judged : (e : Tlv) → Judged (der (key_of e)) (judge (algorithm_identifier then bit_string then nothing) (inside e) or_else None) (λ k. Unit {0})
unfolding key_of
key-judged e =
    no_more _ _ _
    (under (algorithm_at (inside e)) _ _ _
    (then-judged algorithm_identifier (bit_string then nothing) (inside e) (λ here. der (algorithm_at here)) _ (λ e a. a.whole ≡ e.whole) _ refl algorithm-reads (λ algorithm p.
    under (bits_at (behind (inside e))) _ _ _
    (then-judged bit_string nothing (behind (inside e)) (λ here. der (bits_at here)) _ Whatever _ refl bits-reads (λ key q. ends (behind (behind (inside e))) _ _ (λ h. tt))))))

key-reads : Reads subject_public_key_info (λ here. der (key_at here)) Whatever
unfolding key_at
key-reads = within-reads 0x30 (algorithm_identifier then bit_string then nothing) no_rules key_of Whatever key-judged

-- ---- the version

-- the content of [0] where the version within is the default
default-encoded : (o : List ℕ) (at : ℕ) → first_broken header_rules o ≡ None
    → (element_of (record { rest = o; at = at })).tag ≡ 0x02 → (element_of (record { rest = o; at = at })).content ≡ 0 ∷ [] → (behind (record { rest = o; at = at })).rest ≡ []
    → o ≡ encode 0x02 (0 ∷ [])
unfolding element_of behind length_of length_octets
default-encoded o at e t c b = by_octets o (has_header o e) t c b
  where
    by_rest : (a : ℕ) (rest : List ℕ) → a ≡ 2 → take 1 rest ≡ 0 ∷ [] → drop 1 rest ≡ [] → a ∷ 1 ∷ rest ≡ 2 ∷ 1 ∷ 0 ∷ []
    by_rest a [] t c b = absurd cc
    by_rest a (x ∷ more) t c b = let first : x ≡ 0 = cc in rw (t, first, b) refl

    by_octets : (o : List ℕ) → HasHeader o → tag_of o ≡ 2 → take (length_of o) (drop (header_size o) o) ≡ 0 ∷ [] → drop (header_size o + length_of o) o ≡ [] → o ≡ 2 ∷ 1 ∷ 0 ∷ []
    by_octets [] h t c b = absurd (let two : 2 ≤ 0 = h.two in omega arith)
    by_octets (a ∷ []) h t c b = absurd (let two : 2 ≤ 1 = h.two in omega arith)
    by_octets (a ∷ f ∷ rest) h t c b =
        let o = a ∷ f ∷ rest in
        let whole : header_size o + length_of o ≤ length o = h.whole in
        let len : length (take (length_of o) (drop (header_size o) o)) ≡ length_of o = length-take-le (length_of o) (drop (header_size o) o) (omega (arith, length-drop (header_size o) o)) in
        let one : length_of o ≡ 1 = sym len ∙ ap (λ (xs : List ℕ). length xs) c in
        let definite : f ≢ 128 = h.definite in
        let low : f < 128 = elim h.shortest [ inl le ↦ omega arith | inr long ↦ let high = long.1 in absurd (omega arith) ] in
        let test : ltb f 128 ≡ true = lt-ltb f 128 low in
        let is : f ≡ 1 = sym (rw test refl) ∙ one in
        subst (λ (x : ℕ). a ∷ x ∷ rest ≡ 2 ∷ 1 ∷ 0 ∷ []) (sym is)
        (by_rest a rest t
        (subst (λ (x : ℕ). take (length_of (a ∷ x ∷ rest)) (drop (header_size (a ∷ x ∷ rest)) (a ∷ x ∷ rest)) ≡ 0 ∷ []) is c)
        (subst (λ (x : ℕ). drop (header_size (a ∷ x ∷ rest) + length_of (a ∷ x ∷ rest)) (a ∷ x ∷ rest) ≡ []) is b))

default-content : (o : List ℕ) (at : ℕ) → o ≡ encode 0x02 (0 ∷ []) → (element_of (record { rest = o; at = at })).content ≡ 0 ∷ []
unfolding element_of length_of length_octets
default-content o at e = rw e refl

-- a number that names a version
named-judged : (at : ℕ) (content : List ℕ) → Judged (version_named at content) (option_map (breaks at) (one_rule VersionRule (λ c. not (is_version c)) content)) (λ v. version_named at content ≡ Ok v)
named-judged at [] = refl
named-judged at (octet ∷ []) = by_tests (eqb octet 0) (eqb octet 1) (eqb octet 2)
  where
    by_tests : (a b c : Bool)
        → Judged (cond a (Ok V1) (cond b (Ok V2) (cond c (Ok V3) (Err (breaks at VersionRule))))) (option_map (breaks at) (cond (not (a || b || c)) (Some VersionRule) None))
        (λ v. cond a (Ok V1) (cond b (Ok V2) (cond c (Ok V3) (Err (breaks at VersionRule)))) ≡ Ok v)
    by_tests true b c = (refl, refl)
    by_tests false true c = (refl, refl)
    by_tests false false true = (refl, refl)
    by_tests false false false = refl
named-judged at (octet ∷ next ∷ content) = refl

named-first : (at : ℕ) (content : List ℕ) → version_named at content ≡ Ok V1 → content ≡ 0 ∷ []
named-first at [] e = absurd cc
named-first at (octet ∷ []) e = by_tests (eqb octet 0) (eqb octet 1) (eqb octet 2) refl e
  where
    by_tests : (a b c : Bool) → eqb octet 0 ≡ a → cond a (Ok V1) (cond b (Ok V2) (cond c (Ok V3) (Err (breaks at VersionRule)))) ≡ Ok V1 → octet ∷ [] ≡ 0 ∷ []
    by_tests true b c t e = ap (λ (x : ℕ). x ∷ []) (eqb-true octet 0 t)
    by_tests false true c t e = absurd cc
    by_tests false false true t e = absurd cc
    by_tests false false false t e = absurd cc
named-first at (octet ∷ next ∷ content) e = absurd cc

number-judged : (e : Tlv) → Judged (version_integer e) (option_map (breaks e.at) (version_rules e.content)) (λ v. version_named e.at e.content ≡ Ok v)
unfolding version_integer
number-judged e =
    subst (λ o. Judged (der (value_at integer_rules (λ c. c) e) >>= λ content. version_named e.at content) o (λ v. version_named e.at e.content ≡ Ok v))
    (spread (der_rules integer_rules e.content) (one_rule VersionRule (λ c. not (is_version c)) e.content))
    (bind (der (value_at integer_rules (λ c. c) e)) (λ content. version_named e.at content) _ _ _ _ (value-judged integer_rules (λ c. c) e) (λ content p.
    subst (λ (c : List ℕ). Judged (version_named e.at c)
    (option_map (breaks e.at) (one_rule VersionRule (λ c. not (is_version c)) e.content))
    (λ v. version_named e.at e.content ≡ Ok v)) (sym p.0) (named-judged e.at e.content)))
  where
    spread : (a b : Option CertRule) → (option_map (breaks e.at) a or_else option_map (breaks e.at) b) ≡ option_map (breaks e.at) (a or_else b)
    spread (Some k) b = refl
    spread None b = refl

-- a version that is read is not the default
default-judged : (e : Tlv) (v : Version) → Headed (inside e) → (element_of (inside e)).tag ≡ 0x02
    → version_named (element_of (inside e)).at (element_of (inside e)).content ≡ Ok v
    → (behind (inside e)).rest ≡ []
    → Judged (not_default e v) (option_map (breaks e.at) (default_rules e.content)) (λ v. Unit {0})
default-judged e v h t n b = by_version v n
  where
    is_default : version_named (element_of (inside e)).at (element_of (inside e)).content ≡ Ok V1 → bytes_eq e.content (encode 0x02 (0 ∷ [])) ≡ true
    is_default n = (bytes_eq-Decides e.content (encode 0x02 (0 ∷ []))).1 (default-encoded e.content e.start h t (named-first _ _ n) b)

    names_first : bytes_eq e.content (encode 0x02 (0 ∷ [])) ≡ true → version_named (element_of (inside e)).at (element_of (inside e)).content ≡ Ok V1
    names_first same = rw (default-content e.content e.start ((bytes_eq-Decides e.content (encode 0x02 (0 ∷ []))).0 same)) refl

    other : (b : Bool) → bytes_eq e.content (encode 0x02 (0 ∷ [])) ≡ b → (w : Version)
        → (let r : Result Version CertFault = Ok V1 in r ≡ Ok w → ⊥)
        → version_named (element_of (inside e)).at (element_of (inside e)).content ≡ Ok w
        → b ≡ false
    other true same w differs n = absurd (differs (sym (names_first same) ∙ n))
    other false same w differs n = refl

    by_version : (v : Version) → version_named (element_of (inside e)).at (element_of (inside e)).content ≡ Ok v
        → Judged (not_default e v) (option_map (breaks e.at) (cond (bytes_eq e.content (encode 0x02 (0 ∷ []))) (Some (Der DefaultEncoded)) None)) (λ v. Unit {0})
    by_version V1 n = rw (is_default n) refl
    by_version V2 n = rw (other _ refl V2 (λ e. cc) n) (refl, tt)
    by_version V3 n = rw (other _ refl V3 (λ e. cc) n) (refl, tt)

version-judged : (e : Tlv) → Judged (version_of e) (judge (version_number then nothing) (inside e) or_else option_map (breaks e.at) (default_rules e.content)) (λ v. Unit {0})
unfolding version_of
version-judged e =
    subst (λ o. Judged (der (element_at 0x02 (inside e)) >>= λ number. version_integer number.0 >>= λ version. der (end_at number.1) >>= λ done. not_default e version) o (λ v. Unit {0}))
    (sym (regroup (header_fault (inside e) or_else row_fault version_number (element_of (inside e))) (judge nothing (behind (inside e))) (option_map (breaks e.at) (default_rules e.content))))
    (element-judged 0x02 plain version_rules (inside e) version_integer
    (λ number version. der (end_at number.1) >>= λ done. not_default e version) _ _ _ (number-judged (element_of (inside e)))
    (λ v h t n. end-judged (behind (inside e)) (λ done. not_default e v) _ _ (λ b. default-judged e v h t n b)))

abbrev beside : Place → Version → Result (Version × Place) CertFault
beside after v = Ok (v, after)

abbrev that_stands : Tlv × Place → Result (Option Tlv × Place) Fault
that_stands x = Ok (Some x.0, x.1)

-- a version, where one is
version-then : {B : Type 0} (others : Shape) (here : Place) (f : Version × Place → Result B CertFault) (Q : B → Type 0)
    → ((v : Version) (after : Place) → after ≡ cond (begins_with 0xA0 here.rest) (behind here) here → Judged (f (v, after)) (judge others after) Q)
    → Judged (version_at here >>= f) (judge (optional version then others) here) Q
unfolding version_at optional_at
version-then {B} others here f Q k = by_start (begins_with 0xA0 here.rest) k
  where
    flat : (r : Result (Tlv × Place) Fault)
        → ((der (r >>= λ x. that_stands x) >>= λ e. version_if e.0 >>= λ version. beside e.1 version) >>= f) ≡ (der r >>= λ x. version_of x.0 >>= λ v. f (v, x.1))
    flat (Ok x) = by_version (version_of x.0)
      where
        by_version : (r : Result Version CertFault) → ((r >>= λ version. beside x.1 version) >>= f) ≡ (r >>= λ v. f (v, x.1))
        by_version (Ok v) = refl
        by_version (Err d) = refl
    flat (Err d) = refl

    by_start : (b : Bool)
        → ((v : Version) (after : Place) → after ≡ cond b (behind here) here → Judged (f (v, after)) (judge others after) Q)
        → Judged ((der (cond {A = Result (Option Tlv × Place) Fault} b
        (element_at 0xA0 here >>= λ x. Ok (Some x.0, x.1)) (Ok (None, here))) >>= λ e.
        version_if e.0 >>= λ version. beside e.1 version) >>= f)
        (cond (not (b || false)) (judge others here) (header_fault here or_else row_fault version (element_of here) or_else judge others (behind here))) Q
    by_start true k =
        subst (λ r. Judged r (header_fault here or_else row_fault version (element_of here) or_else judge others (behind here)) Q) (sym (flat (element_at 0xA0 here)))
        (element-judged 0xA0 (version_number then nothing) default_rules here version_of (λ x v. f (v, x.1)) (judge others (behind here)) _ Q
        (version-judged (element_of here)) (λ v h t p. k v (behind here) refl))
    by_start false k = k V1 here refl

-- ---- the whole

abbrev key_fields : Shape
key_fields = algorithm_identifier then bit_string then nothing

abbrev last_fields : Shape
last_fields = optional (unique_identifier 0x81) then optional (unique_identifier 0x82) then optional (tagged 0xA3 explicit_extensions no_rules no_other) then nothing

abbrev tbs_fields : Shape
tbs_fields = optional version then integer then algorithm_identifier then name then validity then name then subject_public_key_info then last_fields

abbrev certificate_fields : Shape
certificate_fields = tbs_certificate then algorithm_identifier then bit_string then nothing

-- the algorithm identifier follows the serial number
identifier-place : (b : Bool) (here after : Place) → after ≡ cond b (behind here) here → element_of (behind after) ≡ nth (cond b 2 1) here
identifier-place true here after e = ap (λ (p : Place). element_of (behind p)) e
identifier-place false here after e = ap (λ (p : Place). element_of (behind p)) e

-- the algorithm identifier within what is signed
abbrev SignedWith : Tlv → LocatedTbs → Type 0
SignedWith e t = t.fields.signature.whole ≡ (nth (cond (begins_with 0xA0 e.content) 2 1) (inside e)).whole

-- a unique identifier
unique-judged : (e : Tlv) → Judged (der (unique_identifier_of e)) (judge plain (inside e) or_else option_map (breaks e.at) (der_rules bits_rules e.content)) (λ u. Unit {0})
unique-judged e = unique_identifier-format.judged e

optional_fields-judged : (here : Place) → Judged (der (optional_fields_at here)) (judge last_fields here) (λ l. Unit {0})
unfolding optional_fields_at
optional_fields-judged here =
    under (optional_of 0x81 unique_identifier_of here) _ _ _
    (optional-judged 0x81 plain (der_rules bits_rules)
    (optional (unique_identifier 0x82) then optional
    (tagged 0xA3 explicit_extensions no_rules no_other) then nothing) here unique_identifier_of _
    Whatever _ unique-judged (λ issuer second.
    under (optional_of 0x82 unique_identifier_of second) _ _ _
    (optional-judged 0x82 plain (der_rules bits_rules)
    (optional (tagged 0xA3 explicit_extensions no_rules no_other) then nothing) second
    unique_identifier_of _ Whatever _ unique-judged (λ subject third.
    under (optional_of 0xA3 explicit_all_located_of third) _ _ _
    (optional-judged 0xA3 explicit_extensions no_rules nothing third explicit_all_located_of _ Whatever _ explicit_all_located-judged (λ extensions after. ends after _ _ (λ h. tt)))))))

tbs-judged : (e : Tlv) → Judged (tbs_of e) (judge tbs_fields (inside e) or_else None) (SignedWith e)
unfolding tbs_of
tbs-judged e =
    no_more _ _ _
    (version-then (integer then algorithm_identifier then name then validity then name then subject_public_key_info then last_fields) (inside e) _ (SignedWith e) (λ version at1 place.
    let at2 = behind at1 in
    let at3 = behind at2 in
    let at4 = behind at3 in
    let at5 = behind at4 in
    let at6 = behind at5 in
    then-judged integer (algorithm_identifier then name then validity then name then
    subject_public_key_info then last_fields) at1 (λ here. der (integer_at here)) _ Whatever
    (SignedWith e) refl integer-reads (λ serial p1.
    then-judged algorithm_identifier
    (name then validity then name then subject_public_key_info then last_fields) at2
    (λ here. der (algorithm_at here)) _ (λ e a. a.whole ≡ e.whole)
    (SignedWith e) refl algorithm-reads (λ signature same.
    then-judged name (validity then name then subject_public_key_info then last_fields) at3 (λ here. der (name_at here)) _ Whatever (SignedWith e) refl name-reads (λ issuer p3.
    then-judged validity (name then subject_public_key_info then last_fields) at4 (λ here. der (validity_at here)) _ Whatever (SignedWith e) refl validity-reads (λ period p4.
    then-judged name (subject_public_key_info then last_fields) at5 (λ here. der (name_at here)) _ Whatever (SignedWith e) refl name-reads (λ subject p5.
    then-judged subject_public_key_info last_fields at6 (λ here. der (key_at here)) _ Whatever (SignedWith e) refl key-reads (λ key p6.
    no_less _ _ _
    (bind (der (optional_fields_at (behind at6))) _ (judge last_fields (behind at6)) None Whatever_read (SignedWith e) (optional_fields-judged (behind at6)) (λ optional_fields h.
    (refl, same ∙ ap (λ (x : Tlv). x.whole) (identifier-place (begins_with 0xA0 e.content) (inside e) at1 place))))))))))))
  where
    Whatever_read : OptionalFields → Type 0
    Whatever_read l = Unit {0}

-- both algorithm identifiers, and the place of the outer one
abbrev Identified : Tlv → UncheckedCertificate → Type 0
Identified e s =
    (s.certificate.tbsCertificate.signature.whole ≡ (nth (cond (begins_with 0xA0 (nth 0 (inside e)).content) 2 1) (inside (nth 0 (inside e)))).whole)
    × (s.certificate.signatureAlgorithm.whole ≡ (nth 1 (inside e)).whole)
    × (s.identifier_at ≡ (nth 1 (inside e)).at)

-- a reading that was judged is that of what it read
itself : {A : Type 0} (r : Result A CertFault) (o : Option CertFault) (P : A → Type 0) → Judged r o P → Judged r o (λ x. P x × (r ≡ Ok x))
itself (Ok x) o P j = (j.0, (j.1, refl))
itself (Err f) o P j = j

signed-judged : (e : Tlv) → Judged (signed_of e) (judge certificate_fields (inside e) or_else None) (Identified e)
unfolding signed_of
signed-judged e =
    no_more _ _ _
    (element-judged 0x30 tbs_fields no_rules (inside e) tbs_of _ _ (SignedWith (element_of (inside e))) (Identified e) (tbs-judged (element_of (inside e))) (λ fields h1 t1 inner.
    element-judged 0x30 (object_identifier then optional any then nothing) no_rules
    (behind (inside e)) (λ x. der (algorithm_of x)) _ _
    (λ a. a.whole ≡ (element_of (behind (inside e))).whole) (Identified e)
    (algorithm-judged (element_of (behind (inside e)))) (λ algorithm h2 t2 outer.
    then-judged bit_string nothing (behind (behind (inside e))) (λ here. der (bits_at here)) _ Whatever (Identified e) refl bits-reads (λ signature p.
    no_less _ _ _
    (end-judged (behind (behind (behind (inside e)))) _ None (Identified e) (λ done. (refl, (inner, outer, refl))))))))

-- both algorithm identifiers are one
agreed-judged : (octets : List ℕ) (shape : UncheckedCertificate) → Identified (element_of (from_front octets)) shape → Judged (with_one_algorithm shape) (algorithms_fault octets) (λ c. Unit {0})
unfolding with_one_algorithm
agreed-judged octets shape same =
    subst (λ (b : Bool). Judged (with_one_algorithm shape) (cond b None (Some (breaks (signature_algorithm_element octets).at AlgorithmMismatch))) (λ c. Unit {0}))
    (ap (λ (xs : List ℕ). bytes_eq xs shape.certificate.signatureAlgorithm.whole) same.0 ∙ ap (λ (xs : List ℕ). bytes_eq (signature_element octets).whole xs) same.1)
    (by_test (bytes_eq shape.certificate.tbsCertificate.signature.whole shape.certificate.signatureAlgorithm.whole) (signature_algorithm_element octets).at same.2)
  where
    by_test : (b : Bool) (at : ℕ) → shape.identifier_at ≡ at
        → Judged (cond b (Ok shape.certificate) (Err (breaks shape.identifier_at AlgorithmMismatch))) (cond b None (Some (breaks at AlgorithmMismatch))) (λ c. Unit {0})
    by_test true at e = (refl, tt)
    by_test false at e = rw e refl

-- the rules of the fields
rules-judged : (o : Option CertFault) (c : Certificate) → Judged (unless_broken o c) o (λ c. Unit {0})
rules-judged None c = (refl, tt)
rules-judged (Some f) c = refl

whole-judged : (octets : List ℕ)
    → Judged (whole_of octets)
    (judge (certificate then nothing) (from_front octets) or_else algorithms_fault octets or_else
    fields_fault (signed_of (nth 0 (from_front octets)))) (λ c. Unit {0})
unfolding whole_of
whole-judged octets =
    subst (λ o. Judged (der (element_at 0x30 (from_front octets)) >>= λ e. signed_of e.0 >>= λ shape. der (end_at e.1) >>= λ done. rest shape) o (λ c. Unit {0}))
    (sym (grouped (header_fault (from_front octets) or_else row_fault certificate (element_of (from_front octets))) (judge nothing (behind (from_front octets))) (algorithms_fault octets) fields))
    (element-judged 0x30 certificate_fields no_rules (from_front octets) signed_of (λ e shape. der (end_at e.1) >>= λ done. rest shape) _ IsRead (λ c. Unit {0})
    (itself (signed_of front) _ (Identified front) (signed-judged front)) (λ shape h t same.
    end-judged (behind (from_front octets)) (λ done. rest shape) (algorithms_fault octets or_else fields) (λ c. Unit {0}) (λ e.
    bind (with_one_algorithm shape)
    (λ c. unless_broken (extensions_fault shape.certificate.tbsCertificate.version
    shape.optional_fields) c) (algorithms_fault octets) fields (λ c. Unit {0}) (λ c. Unit {0})
    (agreed-judged octets shape same.0) (λ c p.
    subst (λ (r : Result UncheckedCertificate CertFault). Judged
    (unless_broken (extensions_fault shape.certificate.tbsCertificate.version
    shape.optional_fields) c) (fields_fault r) (λ c. Unit {0})) (sym same.1)
    (rules-judged _ c)))))
  where
    front : Tlv
    front = element_of (from_front octets)

    fields : Option CertFault
    fields = fields_fault (signed_of front)

    IsRead : UncheckedCertificate → Type 0
    IsRead s = Identified front s × (signed_of front ≡ Ok s)

    rest : UncheckedCertificate → Result Certificate CertFault
    rest shape = with_one_algorithm shape >>= λ c. unless_broken (extensions_fault shape.certificate.tbsCertificate.version shape.optional_fields) c

    grouped : (a b c d : Option CertFault) → (a or_else b or_else c or_else d) ≡ (a or_else (b or_else (c or_else d)))
    grouped (Some x) b c d = refl
    grouped None (Some x) c d = refl
    grouped None None c d = refl

-- what reading a certificate refuses is the first rule of the table that is broken
pub judged : (octets : List ℕ) → refusal (certificate_of octets) ≡ certificate_fault octets
unfolding certificate_of
judged octets = by_size (nat_lt 65536 (length octets))
  where
    by_size : (b : Bool) → refusal (cond b (Err (breaks 0 (Der TooLarge))) (whole_of octets))
        ≡ cond b (Some (breaks 0 (Der TooLarge))) (judge (certificate then nothing) (from_front octets) or_else algorithms_fault octets or_else fields_fault (signed_of (nth 0 (from_front octets))))
    by_size true = refl
    by_size false = refusal-judged (whole_of octets) _ (λ c. Unit {0}) (whole-judged octets)

-- the same for a call that answers what reading gives
pub fault-judged : {X : Type 0} (view : X → Certificate) (result : Result X CertFault) (octets : List ℕ) → Answers view result (certificate_of octets) → refusal result ≡ certificate_fault octets
fault-judged view (Ok x) octets a = ap (λ (r : Result Certificate CertFault). refusal r) (sym a) ∙ judged octets
fault-judged view (Err f) octets a = ap (λ (r : Result Certificate CertFault). refusal r) (sym a) ∙ judged octets
