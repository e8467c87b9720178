-- Certificates: what is read is encoded so, and what is encoded so is read.
use Rattle.std.proofs.Common.{◌≡◌, ℕ, ◌+◌, Bool, true, false, cond, ltb, eqb, List, [], ◌++◌, length, Option, Some, None, Result, Ok, Err, refl, sym, ap, subst, ◌∙◌}
use Rattle.std.specs.Prelude.{map, option_map, unwrap_or}
use Rattle.std.specs.Str.{bytes_eq}
use Rattle.std.proofs.lemmas.Bool.{ltb-false, le-ltb}
use Rattle.std.proofs.lemmas.Slice.Eq.{bytes_eq-Decides}
use Rattle.std.proofs.lemmas.List.{append-nil}
use Rattle.ts_der.specs.declared.fault.DerFault.TheVariants.{TooLarge}
use Rattle.ts_der.specs.declared.fault.Fault.{Fault}
use Rattle.ts_der.specs.Octets.{AreOctets}
use Rattle.ts_der.specs.Answer.{◌>>=◌}
use Rattle.ts_der.specs.Element.{Place, Tlv, encode, inside, encoded_at}
use Rattle.ts_der.specs.Reading.{begins_with, element_at, end_at}
use Rattle.ts_der.proofs.OctetLists.{AreOctets-back}
use Rattle.ts_der.proofs.Laws.{bind_ok, ok_is, element-only}
use Rattle.ts_shape.specs.declared.fault.CertRule.TheVariants.{Der, AlgorithmMismatch}
use Rattle.ts_shape.specs.declared.fault.CertFault.{CertFault}
use Rattle.ts_shape.specs.Fault.{der, breaks}
use Rattle.ts_shape.specs.Fields.{Within, IfAny, IsInteger, integer_at, bits_at, optional_of}
use Rattle.ts_name.specs.Names.{name_at}
use Rattle.ts_shape.proofs.Endings.{end-ok, end-again}
use Rattle.ts_shape.proofs.Parts.{Value, took, element-took, der-ok}
use Rattle.ts_shape.proofs.FieldParts.{integer-part, bits-part}
use Rattle.ts_name.proofs.NameParts.{name-part}
use Rattle.ts_shape.proofs.OptionalParts.{begins-if-any, optional-found, optional-again}
use Rattle.ts_extensions.specs.Extension.{Extension, Located, unlocated, AreExplicit, explicit_all_located_of, explicit_extensions_of}
use Rattle.ts_extensions.proofs.ExtensionParts.{explicit_extensions-format}
use Rattle.ts_ext.proofs.Formats.{value_of}
use Rattle.ts_extensions.proofs.Unlocated.{optional-sees, explicit_extensions-see}
use Rattle.ts_extensions.proofs.ValidExtensions.{AllOctets, explicit-octets}
use Rattle.ts_name.specs.Canon.{Attr}
use Rattle.ts_name.specs.NameEncoding.{IsName}
use Rattle.ts_field.specs.Algorithm.{Algorithm, IsAlgorithm, algorithm_of, algorithm_at}
use Rattle.ts_field.proofs.Algorithms.{algorithm-value, algorithm-part, one-algorithm}
use Rattle.ts_cert.specs.declared.version.Version.{Version}
use Rattle.ts_cert.specs.Certificate.{KeyInfo, Tbs, Certificate}
use Rattle.ts_cert.specs.Rules.{OptionalFields, all_located, LocatedTbs, extensions_fault}
use Rattle.ts_cert.specs.Encoding.{IsValidity, IsKeyInfo, IsUniqueIdentifier, IsTbs, IsSigned, IsCertificate, version_octets}
use Rattle.ts_cert.specs.Version.{version_at}
use Rattle.ts_cert.specs.Reading.{validity_at, key_at, unique_identifier_of, optional_fields_at, tbs_of, UncheckedCertificate, signed_of, with_one_algorithm, unless_broken, whole_of, certificate_of}
use Rattle.ts_cert.proofs.FieldRules.{Has, KeepsRules, rules-kept, rules-again}
use Rattle.ts_cert.proofs.KeyParts.{key-part, unique_identifier-format}
use Rattle.ts_cert.proofs.Periods.{validity-part, version-found, version-again}
use Rattle.ts_cert.specs.declared.validity.Validity.{Validity}

-- ---- what is signed

explicit-part : Value 0xA3 explicit_extensions_of AreExplicit
explicit-part = value_of explicit_extensions-format 0xA3

pub unique-part : (tag : ℕ) → Value tag unique_identifier_of IsUniqueIdentifier
unique-part tag = value_of unique_identifier-format tag

-- the extensions, as what they say
unlocated-read : (here : Place) (o : Option (List Located)) (after : Place) → optional_of 0xA3 explicit_all_located_of here ≡ Ok (o, after)
    → optional_of 0xA3 explicit_extensions_of here ≡ Ok (option_map (map unlocated) o, after)
unlocated-read here o after read = optional-sees 0xA3 (map unlocated) explicit_all_located_of explicit_extensions_of explicit_extensions-see here ∙ rw read refl

-- the octets of their values
all_located-octets : (here : Place) (o : Option (List Located)) (after : Place) → AreOctets here.rest → optional_of 0xA3 explicit_all_located_of here ≡ Ok (o, after) → AllOctets (unwrap_or o [])
unfolding optional_of
all_located-octets here o after fits read = by_tag (begins_with 0xA3 here.rest) read
  where
    by_tag : (b : Bool) → cond {A = Result (Option (List Located) × Place) Fault} b
        (element_at 0xA3 here >>= λ e. explicit_all_located_of e.0 >>= λ x. Ok (Some x, e.1))
        (Ok (None, here)) ≡ Ok (o, after) → AllOctets (unwrap_or o [])
    by_tag true r =
        let e = bind_ok (element_at 0xA3 here) (λ e. explicit_all_located_of e.0 >>= λ x. Ok (Some x, e.1)) (o, after) r in
        let x = bind_ok (explicit_all_located_of e.0.0) (λ x. Ok (Some x, e.0.1)) (o, after) e.2 in
        let t = element-took 0xA3 here e.0.0 e.0.1 fits e.1 in
        subst (λ (p : Option (List Located) × Place). AllOctets (unwrap_or p.0 []))
        (ok_is {A = Option (List Located) × Place} {E = Fault} (Some x.0, e.0.1) (o, after) x.2)
        (explicit-octets e.0.0 x.0 t.inner x.1)
    by_tag false r = subst (λ (p : Option (List Located) × Place). AllOctets (unwrap_or p.0 [])) (ok_is {A = Option (List Located) × Place} {E = Fault} (None, here) (o, after) r) tt

-- the fields at the end: unique identifiers and extensions
record EndsWith (here : Place) (l : OptionalFields) : Type 0 where
  pub issuer_id : List ℕ
  pub subject_id : List ℕ
  pub last : List ℕ
  pub issuerUniqueID : IfAny 0x81 IsUniqueIdentifier issuer_id l.issuerUniqueID
  pub subjectUniqueID : IfAny 0x82 IsUniqueIdentifier subject_id l.subjectUniqueID
  pub extensions : IfAny 0xA3 AreExplicit last (option_map (map unlocated) l.extensions)
  pub fields : here.rest ≡ issuer_id ++ (subject_id ++ last)
  pub octets : AllOctets (all_located l)

ends-found : (here : Place) (l : OptionalFields) → AreOctets here.rest → optional_fields_at here ≡ Ok l → EndsWith here l
unfolding optional_fields_at
ends-found here l fits read =
    let i = bind_ok (optional_of 0x81 unique_identifier_of here) _ l read in
    let u = bind_ok (optional_of 0x82 unique_identifier_of i.0.1) _ l i.2 in
    let o = bind_ok (optional_of 0xA3 explicit_all_located_of u.0.1) _ l u.2 in
    let d = bind_ok (end_at o.0.1) _ l o.2 in
    let made : OptionalFields = record { issuerUniqueID = i.0.0; subjectUniqueID = u.0.0; extensions = o.0.0; issuerUniqueID_at = here.at; subjectUniqueID_at = i.0.1.at; extensions_at = u.0.1.at } in
    let m = optional-found 0x81 unique_identifier_of IsUniqueIdentifier (unique-part 0x81) here i.0.0 i.0.1 fits i.1 in
    let n = optional-found 0x82 unique_identifier_of IsUniqueIdentifier (unique-part 0x82) i.0.1 u.0.0 u.0.1 m.3 u.1 in
    let x = optional-found 0xA3 explicit_extensions_of AreExplicit explicit-part u.0.1 (option_map (map unlocated) o.0.0) o.0.1 n.3 (unlocated-read u.0.1 o.0.0 o.0.1 o.1) in
    let at_last : u.0.1.rest ≡ x.0 = x.2 ∙ (ap (λ (r : List ℕ). x.0 ++ r) (end-ok o.0.1 d.0 d.1) ∙ append-nil x.0) in
    subst (EndsWith here) (ok_is {A = OptionalFields} {E = Fault} made l d.2)
    (record {
      issuer_id = m.0;
      subject_id = n.0;
      last = x.0;
      issuerUniqueID = m.1;
      subjectUniqueID = n.1;
      extensions = x.1;
      fields = m.2 ∙ ap (λ (r : List ℕ). m.0 ++ r) (n.2 ∙ ap (λ (r : List ℕ). n.0 ++ r) at_last);
      octets = all_located-octets u.0.1 o.0.0 o.0.1 n.3 o.1;
    })

-- the fields at the front: serial number, algorithm, issuer
record BeginsWith (here after : Place) (number : List ℕ) (a : Algorithm) (name : List (List Attr)) : Type 0 where
  pub serial : List ℕ
  pub algorithm : List ℕ
  pub issued_by : List ℕ
  pub serialNumber : Within 0x02 IsInteger serial number
  pub signature : Within 0x30 IsAlgorithm algorithm a
  pub issuer : Within 0x30 IsName issued_by name
  pub fields : here.rest ≡ serial ++ (algorithm ++ (issued_by ++ after.rest))
  pub octets : AreOctets after.rest

begins-found : (here second third after : Place) (number : List ℕ) (a : Algorithm) (name : List (List Attr)) → AreOctets here.rest
    → integer_at here ≡ Ok (number, second) → algorithm_at second ≡ Ok (a, third) → name_at third ≡ Ok (name, after) → BeginsWith here after number a name
begins-found here second third after number a name fits one two three =
    let s = took integer-part here number second fits one in
    let x = took algorithm-part second a third s.3 two in
    let i = took name-part third name after x.3 three in
    record {
      serial = s.0;
      algorithm = x.0;
      issued_by = i.0;
      serialNumber = s.1;
      signature = x.1;
      issuer = i.1;
      fields = s.2 ∙ ap (λ (r : List ℕ). s.0 ++ r) (x.2 ∙ ap (λ (r : List ℕ). x.0 ++ r) i.2);
      octets = i.3;
    }

-- the fields after them: validity, subject, key
record GoesOnWith (here after : Place) (v : Validity) (name : List (List Attr)) (k : KeyInfo) : Type 0 where
  pub period : List ℕ
  pub issued_to : List ℕ
  pub key : List ℕ
  pub validity : Within 0x30 IsValidity period v
  pub subject : Within 0x30 IsName issued_to name
  pub subjectPublicKeyInfo : Within 0x30 IsKeyInfo key k
  pub fields : here.rest ≡ period ++ (issued_to ++ (key ++ after.rest))
  pub octets : AreOctets after.rest

goes-on-found : (here second third after : Place) (v : Validity) (name : List (List Attr)) (k : KeyInfo) → AreOctets here.rest
    → validity_at here ≡ Ok (v, second) → name_at second ≡ Ok (name, third) → key_at third ≡ Ok (k, after) → GoesOnWith here after v name k
goes-on-found here second third after v name k fits one two three =
    let p = took validity-part here v second fits one in
    let u = took name-part second name third p.3 two in
    let x = took key-part third k after u.3 three in
    record {
      period = p.0;
      issued_to = u.0;
      key = x.0;
      validity = p.1;
      subject = u.1;
      subjectPublicKeyInfo = x.1;
      fields = p.2 ∙ ap (λ (r : List ℕ). p.0 ++ r) (u.2 ∙ ap (λ (r : List ℕ). u.0 ++ r) x.2);
      octets = x.3;
    }

-- a record of what is here
made_of : Version → List ℕ → Algorithm → List (List Attr) → Validity → List (List Attr) → KeyInfo → OptionalFields → Tbs
made_of v n a i p u k l =
    record {
      version = v;
      serialNumber = n;
      signature = a;
      issuer = i;
      validity = p;
      subject = u;
      subjectPublicKeyInfo = k;
      issuerUniqueID = l.issuerUniqueID;
      subjectUniqueID = l.subjectUniqueID;
      extensions = option_map (map unlocated) l.extensions;
    }

together : (content : List ℕ) (first second third : Place) (v : Version) (n : List ℕ) (a : Algorithm) (i : List (List Attr)) (p : Validity) (u : List (List Attr)) (k : KeyInfo) (l : OptionalFields)
    → content ≡ version_octets v ++ first.rest → BeginsWith first second n a i → GoesOnWith second third p u k → EndsWith third l → IsTbs content (made_of v n a i p u k l)
unfolding made_of
together content first second third v n a i p u k l version begins goes ends =
    let at_third : second.rest ≡ goes.period ++ (goes.issued_to ++ (goes.key ++ (ends.issuer_id ++ (ends.subject_id ++ ends.last)))) =
    goes.fields ∙ ap (λ (r : List ℕ). goes.period ++ (goes.issued_to ++ (goes.key ++ r))) ends.fields in
    let at_second : first.rest ≡ begins.serial ++ (begins.algorithm ++ (begins.issued_by ++ (goes.period ++ (goes.issued_to ++ (goes.key ++ (ends.issuer_id ++ (ends.subject_id ++ ends.last))))))) =
    begins.fields ∙ ap (λ (r : List ℕ). begins.serial ++ (begins.algorithm ++ (begins.issued_by ++ r))) at_third in
    record {
      serial = begins.serial;
      algorithm = begins.algorithm;
      issued_by = begins.issued_by;
      period = goes.period;
      issued_to = goes.issued_to;
      key = goes.key;
      issuer_id = ends.issuer_id;
      subject_id = ends.subject_id;
      last = ends.last;
      serialNumber = begins.serialNumber;
      signature = begins.signature;
      issuer = begins.issuer;
      validity = goes.validity;
      subject = goes.subject;
      subjectPublicKeyInfo = goes.subjectPublicKeyInfo;
      issuerUniqueID = ends.issuerUniqueID;
      subjectUniqueID = ends.subjectUniqueID;
      extensions = ends.extensions;
      fields = version ∙ ap (λ (r : List ℕ). version_octets v ++ r) at_second;
    }

-- what is signed, as it was read
pub record FoundTbs (content : List ℕ) (t : LocatedTbs) : Type 0 where
  pub is : IsTbs content t.fields
  pub octets : AllOctets (all_located t.optional_fields)
  pub has : Has t.fields t.optional_fields

pub tbs-found : (e : Tlv) (t : LocatedTbs) → AreOctets e.content → tbs_of e ≡ Ok t → FoundTbs e.content t
unfolding tbs_of made_of
tbs-found e t fits read =
    let v = bind_ok (version_at (inside e)) _ t read in
    let s = bind_ok (der (integer_at v.0.1)) _ t v.2 in
    let a = bind_ok (der (algorithm_at s.0.1)) _ t s.2 in
    let i = bind_ok (der (name_at a.0.1)) _ t a.2 in
    let p = bind_ok (der (validity_at i.0.1)) _ t i.2 in
    let u = bind_ok (der (name_at p.0.1)) _ t p.2 in
    let k = bind_ok (der (key_at u.0.1)) _ t u.2 in
    let l = bind_ok (der (optional_fields_at k.0.1)) _ t k.2 in
    let made : LocatedTbs = record { fields = made_of v.0.0 s.0.0 a.0.0 i.0.0 p.0.0 u.0.0 k.0.0 l.0; optional_fields = l.0 } in
    let version = version-found (inside e) v.0.0 v.0.1 fits v.1 in
    let begins = begins-found v.0.1 s.0.1 a.0.1 i.0.1 s.0.0 a.0.0 i.0.0 (AreOctets-back (version_octets v.0.0) v.0.1.rest (subst AreOctets version fits))
    (der-ok (integer_at v.0.1) s.0 s.1) (der-ok (algorithm_at s.0.1) a.0 a.1) (der-ok (name_at a.0.1) i.0 i.1) in
    let goes = goes-on-found i.0.1 p.0.1 u.0.1 k.0.1 p.0.0 u.0.0 k.0.0 begins.octets
    (der-ok (validity_at i.0.1) p.0 p.1) (der-ok (name_at p.0.1) u.0 u.1) (der-ok (key_at u.0.1) k.0 k.1) in
    let ends = ends-found k.0.1 l.0 goes.octets (der-ok (optional_fields_at k.0.1) l.0 l.1) in
    subst (FoundTbs e.content) (ok_is {A = LocatedTbs} {E = CertFault} made t l.2)
    (record {
      is = together e.content v.0.1 i.0.1 k.0.1 v.0.0 s.0.0 a.0.0 i.0.0 p.0.0 u.0.0 k.0.0 l.0 version begins goes ends;
      octets = ends.octets;
      has = record { issuer = refl; subject = refl; extensions = refl };
    })

-- the extensions that stand where these are encoded
all_located-again : (here : Place) (xs : Option (List Extension)) (w : List ℕ) → IfAny 0xA3 AreExplicit w xs → here.rest ≡ w
    → (o : Option (List Located)) × (optional_of 0xA3 explicit_all_located_of here ≡ Ok (o, record { rest = []; at = here.at + length w })) × (option_map (map unlocated) o ≡ xs)
all_located-again here xs w is e =
    let after : Place = record { rest = []; at = here.at + length w } in
    let read = optional-again 0xA3 explicit_extensions_of AreExplicit explicit-part here xs w [] is refl (e ∙ sym (append-nil w)) in
    let seen = sym (optional-sees 0xA3 (map unlocated) explicit_all_located_of explicit_extensions_of explicit_extensions-see here) ∙ read in
    let o = bind_ok (optional_of 0xA3 explicit_all_located_of here) (λ (x : Option (List Located) × Place). Ok (option_map (map unlocated) x.0, x.1)) (xs, after) seen in
    let same = ok_is {A = Option (List Extension) × Place} {E = Fault} (option_map (map unlocated) o.0.0, o.0.1) (xs, after) o.2 in
    let place : o.0.1 ≡ after = ap (λ (p : Option (List Extension) × Place). p.1) same in
    (o.0.0, o.1 ∙ ap (λ (p : Place). Ok (o.0.0, p)) place, ap (λ (p : Option (List Extension) × Place). p.0) same)

-- fields at the end do not begin with another tag
ends-otherwise : {A : Type 0} (tag : ℕ) (Encodes : List ℕ → A → Type 0) (w : List ℕ) (x : Option A) → IfAny tag Encodes w x → (other : ℕ) → eqb tag other ≡ false → begins_with other w ≡ false
ends-otherwise tag Encodes w x is other differs = ap (begins_with other) (sym (append-nil w)) ∙ begins-if-any tag Encodes w x is other differs [] refl

ends-again : (here : Place) (i s : Option (ℕ × List ℕ)) (xs : Option (List Extension)) (w v last : List ℕ)
    → IfAny 0x81 IsUniqueIdentifier w i → IfAny 0x82 IsUniqueIdentifier v s → IfAny 0xA3 AreExplicit last xs → here.rest ≡ w ++ (v ++ last)
    → (l : OptionalFields) × (optional_fields_at here ≡ Ok l) × (l.issuerUniqueID ≡ i) × (l.subjectUniqueID ≡ s) × (option_map (map unlocated) l.extensions ≡ xs)
unfolding optional_fields_at
ends-again here i s xs w v last first second third e =
    let no_second : begins_with 0x82 last ≡ false = ends-otherwise 0xA3 AreExplicit last xs third 0x82 refl in
    let no_first : begins_with 0x81 (v ++ last) ≡ false = begins-if-any 0x82 IsUniqueIdentifier v s second 0x81 refl last (ends-otherwise 0xA3 AreExplicit last xs third 0x81 refl) in
    let m = optional-again 0x81 unique_identifier_of IsUniqueIdentifier (unique-part 0x81) here i w (v ++ last) first no_first e in
    let p1 : Place = record { rest = v ++ last; at = here.at + length w } in
    let n = optional-again 0x82 unique_identifier_of IsUniqueIdentifier (unique-part 0x82) p1 s v last second no_second refl in
    let p2 : Place = record { rest = last; at = p1.at + length v } in
    let x = all_located-again p2 xs last third refl in
    let d = end-again (p2.at + length last) in
    let l : OptionalFields = record { issuerUniqueID = i; subjectUniqueID = s; extensions = x.0; issuerUniqueID_at = here.at; subjectUniqueID_at = p1.at; extensions_at = p2.at } in
    (l, rw (m, n, x.1, d) refl, refl, refl, x.2)

tbs-again : (e : Tlv) (t : Tbs) → IsTbs e.content t → (s : LocatedTbs) × (tbs_of e ≡ Ok s) × (s.fields ≡ t) × Has t s.optional_fields
unfolding tbs_of made_of
tbs-again e t is =
    let r9 : List ℕ = is.last in
    let r8 : List ℕ = is.subject_id ++ r9 in
    let r7 : List ℕ = is.issuer_id ++ r8 in
    let r6 : List ℕ = is.key ++ r7 in
    let r5 : List ℕ = is.issued_to ++ r6 in
    let r4 : List ℕ = is.period ++ r5 in
    let r3 : List ℕ = is.issued_by ++ r4 in
    let r2 : List ℕ = is.algorithm ++ r3 in
    let r1 : List ℕ = is.serial ++ r2 in
    let tagged : begins_with 0xA0 r1 ≡ false = ap (λ (o : List ℕ). begins_with 0xA0 (o ++ r2)) is.serialNumber.encoded in
    let v = version-again (inside e) t.version r1 tagged is.fields in
    let p1 : Place = record { rest = r1; at = e.start + length (version_octets t.version) } in
    let s = integer-part.again p1 t.serialNumber is.serial r2 is.serialNumber refl in
    let p2 : Place = record { rest = r2; at = p1.at + length is.serial } in
    let a = algorithm-part.again p2 t.signature is.algorithm r3 is.signature refl in
    let p3 : Place = record { rest = r3; at = p2.at + length is.algorithm } in
    let i = name-part.again p3 t.issuer is.issued_by r4 is.issuer refl in
    let p4 : Place = record { rest = r4; at = p3.at + length is.issued_by } in
    let p = validity-part.again p4 t.validity is.period r5 is.validity refl in
    let p5 : Place = record { rest = r5; at = p4.at + length is.period } in
    let u = name-part.again p5 t.subject is.issued_to r6 is.subject refl in
    let p6 : Place = record { rest = r6; at = p5.at + length is.issued_to } in
    let k = key-part.again p6 t.subjectPublicKeyInfo is.key r7 is.subjectPublicKeyInfo refl in
    let p7 : Place = record { rest = r7; at = p6.at + length is.key } in
    let l = ends-again p7 t.issuerUniqueID t.subjectUniqueID t.extensions is.issuer_id is.subject_id is.last is.issuerUniqueID is.subjectUniqueID is.extensions refl in
    let made : LocatedTbs = record { fields = made_of t.version t.serialNumber t.signature t.issuer t.validity t.subject t.subjectPublicKeyInfo l.0; optional_fields = l.0 } in
    (made, rw (v, s, a, i, p, u, k, l.1) refl, rw (l.2, l.3, l.4) refl, record { issuer = sym l.2; subject = sym l.3; extensions = sym l.4 })

-- ---- what is signed, with its signature

signed-found : (e : Tlv) (s : UncheckedCertificate) → AreOctets e.content → signed_of e ≡ Ok s
    → IsSigned e.content s.certificate × AllOctets (all_located s.optional_fields) × Has s.certificate.tbsCertificate s.optional_fields
unfolding signed_of
signed-found e s fits read =
    let t = bind_ok (der (element_at 0x30 (inside e))) _ s read in
    let f = bind_ok (tbs_of t.0.0) _ s t.2 in
    let i = bind_ok (der (element_at 0x30 t.0.1)) _ s f.2 in
    let a = bind_ok (der (algorithm_of i.0.0)) _ s i.2 in
    let b = bind_ok (der (bits_at i.0.1)) _ s a.2 in
    let d = bind_ok (der (end_at b.0.1)) _ s b.2 in
    let made : UncheckedCertificate =
    record {
      certificate =
          record {
            tbs = t.0.0.whole;
            tbsCertificate = f.0.fields;
            signatureAlgorithm =
                a.0;
            signatureValue = b.0.0;
          };
      identifier_at = i.0.0.at;
      optional_fields =
          f.0.optional_fields;
    } in
    let same : made ≡ s = ok_is {A = UncheckedCertificate} {E = CertFault} made s d.2 in
    let tbs = element-took 0x30 (inside e) t.0.0 t.0.1 fits (der-ok (element_at 0x30 (inside e)) t.0 t.1) in
    let identifier = element-took 0x30 t.0.1 i.0.0 i.0.1 tbs.outer (der-ok (element_at 0x30 t.0.1) i.0 i.1) in
    let bits = took bits-part i.0.1 b.0.0 b.0.1 identifier.outer (der-ok (bits_at i.0.1) b.0 b.1) in
    let at_bits : i.0.1.rest ≡ bits.0 = bits.2 ∙ (ap (λ (r : List ℕ). bits.0 ++ r) (end-ok b.0.1 d.0 (der-ok (end_at b.0.1) d.0 d.1)) ∙ append-nil bits.0) in
    let at_identifier : t.0.1.rest ≡ i.0.0.whole ++ bits.0 = identifier.whole ∙ ap (λ (r : List ℕ). i.0.0.whole ++ r) at_bits in
    let algorithm = algorithm-value.found i.0.0 a.0 identifier.inner identifier.encoded (der-ok (algorithm_of i.0.0) a.0 a.1) in
    let found = tbs-found t.0.0 f.0 tbs.inner f.1 in
    subst (λ (x : UncheckedCertificate). IsSigned e.content x.certificate × AllOctets (all_located x.optional_fields) × Has x.certificate.tbsCertificate x.optional_fields) same (
      record {
        identifier = i.0.0.whole;
        bits = bits.0;
        tbsCertificate = record { content = t.0.0.content; fits = tbs.fits; encoded = tbs.encoded; value = found.is };
        signatureAlgorithm = record { content = i.0.0.content; fits = identifier.fits; encoded = identifier.encoded; value = algorithm };
        signatureValue = bits.1;
        fields = tbs.whole ∙ ap (λ (r : List ℕ). t.0.0.whole ++ r) at_identifier;
      },
      found.octets,
      found.has,
    )

pub signed-again : (e : Tlv) (c : Certificate) → IsSigned e.content c
    → (l : OptionalFields) × (signed_of e ≡ Ok (record { certificate = c; identifier_at = e.start + length c.tbs; optional_fields = l })) × Has c.tbsCertificate l
unfolding signed_of
signed-again e c is =
    let t = is.tbsCertificate in
    let a = is.signatureAlgorithm in
    let r2 : List ℕ = is.bits in
    let r1 : List ℕ = is.identifier ++ r2 in
    let first = element-only (inside e) 0x30 t.content r1 t.fits (is.fields ∙ ap (λ (o : List ℕ). o ++ r1) t.encoded) in
    let tlv : Tlv = encoded_at e.start 0x30 t.content in
    let fields = tbs-again tlv c.tbsCertificate t.value in
    let p1 : Place = record { rest = r1; at = e.start + length (encode 0x30 t.content) } in
    let second = element-only p1 0x30 a.content r2 a.fits (ap (λ (o : List ℕ). o ++ r2) a.encoded) in
    let algorithm = algorithm-value.again (encoded_at p1.at 0x30 a.content) c.signatureAlgorithm refl a.value in
    let p2 : Place = record { rest = r2; at = p1.at + length (encode 0x30 a.content) } in
    let bits = bits-part.again p2 c.signatureValue is.bits [] is.signatureValue (sym (append-nil is.bits)) in
    let done = end-again (p2.at + length is.bits) in
    let made : Tbs → List ℕ → UncheckedCertificate =
    λ f o. record {
      certificate =
          record {
            tbs = o;
            tbsCertificate = f;
            signatureAlgorithm =
                c.signatureAlgorithm;
            signatureValue = c.signatureValue;
          };
      identifier_at =
          e.start + length o;
      optional_fields = fields.0.optional_fields;
    } in
    let read : signed_of e ≡ Ok (made fields.0.fields (encode 0x30 t.content)) = rw (first, fields.1, second, algorithm, bits, done) refl in
    (fields.0.optional_fields, read ∙ (ap (λ (f : Tbs). Ok (made f (encode 0x30 t.content))) fields.2 ∙ ap (λ (o : List ℕ). Ok (made c.tbsCertificate o)) (sym t.encoded)), fields.3)

-- ---- certificates

agreed-ok : (s : UncheckedCertificate) (c : Certificate) → with_one_algorithm s ≡ Ok c → (s.certificate.tbsCertificate.signature.whole ≡ s.certificate.signatureAlgorithm.whole) × (s.certificate ≡ c)
unfolding with_one_algorithm
agreed-ok s c read = by_test (bytes_eq s.certificate.tbsCertificate.signature.whole s.certificate.signatureAlgorithm.whole) refl read
  where
    by_test : (b : Bool) → bytes_eq s.certificate.tbsCertificate.signature.whole s.certificate.signatureAlgorithm.whole ≡ b
        → cond {A = Result Certificate CertFault} b (Ok s.certificate) (Err (breaks s.identifier_at AlgorithmMismatch)) ≡ Ok c
        → (s.certificate.tbsCertificate.signature.whole ≡ s.certificate.signatureAlgorithm.whole) × (s.certificate ≡ c)
    by_test true t e = ((bytes_eq-Decides s.certificate.tbsCertificate.signature.whole s.certificate.signatureAlgorithm.whole).0 t, ok_is {E = CertFault} s.certificate c e)
    by_test false t e = absurd cc

kept-ok : (o : Option CertFault) (x c : Certificate) → unless_broken o x ≡ Ok c → (o ≡ None) × (x ≡ c)
kept-ok None x c e = (refl, ok_is {E = CertFault} x c e)
kept-ok (Some f) x c e = absurd cc

-- the parts of a certificate that was read
abbrev IsWhole : List ℕ → Certificate → Type 0
IsWhole octets c = Within 0x30 IsSigned octets c × (c.tbsCertificate.signature ≡ c.signatureAlgorithm) × KeepsRules c.tbsCertificate

whole-found : (octets : List ℕ) (c : Certificate) → AreOctets octets → whole_of octets ≡ Ok c → IsWhole octets c
unfolding whole_of
whole-found octets c fits read =
    let here : Place = record { rest = octets; at = 0 } in
    let e = bind_ok (der (element_at 0x30 here)) _ c read in
    let s = bind_ok (signed_of e.0.0) _ c e.2 in
    let d = bind_ok (der (end_at e.0.1)) _ c s.2 in
    let g = bind_ok (with_one_algorithm s.0) _ c d.2 in
    let t = element-took 0x30 here e.0.0 e.0.1 fits (der-ok (element_at 0x30 here) e.0 e.1) in
    let whole : octets ≡ e.0.0.whole = t.whole ∙ (ap (λ (r : List ℕ). e.0.0.whole ++ r) (end-ok e.0.1 d.0 (der-ok (end_at e.0.1) d.0 d.1)) ∙ append-nil e.0.0.whole) in
    let signed = signed-found e.0.0 s.0 t.inner s.1 in
    let is = signed.0 in
    let same = agreed-ok s.0 g.0 g.1 in
    let kept = kept-ok (extensions_fault s.0.certificate.tbsCertificate.version s.0.optional_fields) g.0 c g.2 in
    let one = one-algorithm is.tbsCertificate.value.algorithm is.identifier
    s.0.certificate.tbsCertificate.signature s.0.certificate.signatureAlgorithm
    is.tbsCertificate.value.signature is.signatureAlgorithm same.0 in
    let rules = rules-kept s.0.certificate.tbsCertificate s.0.optional_fields signed.2 signed.1 kept.0 in
    subst (IsWhole octets) (same.1 ∙ kept.1) (record { content = e.0.0.content; fits = t.fits; encoded = whole ∙ t.encoded; value = is }, one, rules)

pub certificate-found : (octets : List ℕ) (c : Certificate) → AreOctets octets → certificate_of octets ≡ Ok c → IsCertificate octets c
unfolding certificate_of
certificate-found octets c fits read = by_size (ltb 65536 (length octets)) refl read
  where
    by_size : (b : Bool) → ltb 65536 (length octets) ≡ b → cond b (Err (breaks 0 (Der TooLarge))) (whole_of octets) ≡ Ok c → IsCertificate octets c
    by_size true t e = absurd cc
    by_size false t e =
        let w = whole-found octets c fits e in
        record { size = ltb-false 65536 (length octets) t; whole = w.0; agree = w.1; version = w.2.0; distinct = w.2.1; sound = w.2.2 }

pub certificate-again : (octets : List ℕ) (c : Certificate) → IsCertificate octets c → certificate_of octets ≡ Ok c
unfolding certificate_of whole_of with_one_algorithm
certificate-again octets c is =
    let here : Place = record { rest = octets; at = 0 } in
    let w = is.whole in
    let small : ltb 65536 (length octets) ≡ false = let le = is.size in le-ltb 65536 (length octets) le in
    let one = element-only here 0x30 w.content [] w.fits (w.encoded ∙ sym (append-nil (encode 0x30 w.content))) in
    let s = signed-again (encoded_at 0 0x30 w.content) c w.value in
    let d = end-again (0 + length (encode 0x30 w.content)) in
    let agree : bytes_eq c.tbsCertificate.signature.whole c.signatureAlgorithm.whole ≡ true =
    (bytes_eq-Decides c.tbsCertificate.signature.whole c.signatureAlgorithm.whole).1
    (ap (λ (a : Algorithm). a.whole) is.agree) in
    let rules : KeepsRules c.tbsCertificate = (is.version, is.distinct, is.sound) in
    let kept = rules-again c.tbsCertificate s.0 s.2 rules in
    rw (small, one, s.1, d, agree, kept) refl
