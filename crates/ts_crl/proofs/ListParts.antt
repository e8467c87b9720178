-- Lists: what is read is encoded so, and what is encoded so is read.
use Rattle.std.proofs.Common.{◌≡◌, ℕ, ◌+◌, Bool, true, false, cond, not, eqb, ltb, ◌≤◌, List, [], ◌∷◌, ◌++◌, length, Option, Some, None, Result, Ok, Err, refl, sym, ap, subst, ◌∙◌, arith}
use Rattle.std.specs.Prelude.{map, option_map}
use Rattle.std.proofs.lemmas.Bool.{eqb-true, ltb-false, le-ltb}
use Rattle.std.proofs.lemmas.List.{append-nil}
use Rattle.ts_der.specs.declared.fault.DerFault.TheVariants.{IntegerForm, TooLarge}
use Rattle.ts_der.specs.declared.fault.Fault.{Fault}
use Rattle.ts_der.specs.Octets.{AreOctets}
use Rattle.ts_der.specs.Element.{Place, Tlv, Fits, encode, inside, encoded_at}
use Rattle.ts_der.specs.Integer.{is_shortest, integer_rules}
use Rattle.ts_der.specs.Reading.{begins_with, at_element, value_at, element_at, optional_at, end_at}
use Rattle.ts_der.specs.Rules.{value_unless}
use Rattle.ts_der.specs.View.{StandsIfAny}
use Rattle.ts_der.proofs.OctetLists.{AreOctets-back}
use Rattle.ts_der.proofs.Laws.{bind_ok, ok_is, element-only, optional-found as element-if-any}
use Rattle.ts_shape.specs.declared.fault.CertRule.TheVariants.{Der, Version}
use Rattle.ts_shape.specs.declared.fault.CertFault.{CertFault}
use Rattle.ts_name.specs.Canon.{Attr}
use Rattle.ts_shape.specs.Fault.{der, breaks}
use Rattle.ts_shape.specs.Fields.{Within, bits_at, optional_of}
use Rattle.ts_name.specs.Names.{name_at}
use Rattle.ts_shape.proofs.FieldParts.{bits-part}
use Rattle.ts_name.proofs.NameParts.{name-part}
use Rattle.ts_shape.proofs.OptionalParts.{begins-if-any, optional-found, optional-again}
use Rattle.ts_shape.proofs.Parts.{took, element-took, der-ok}
use Rattle.ts_shape.proofs.Endings.{end-ok, end-again}
use Rattle.ts_extensions.specs.Extension.{Extension, AreExtensions}
use Rattle.ts_field.specs.declared.time.Time.{Time}
use Rattle.ts_field.specs.Algorithm.{Algorithm, algorithm_of, algorithm_at}
use Rattle.ts_field.specs.Time.{time_at}
use Rattle.ts_field.proofs.Algorithms.{algorithm-value, algorithm-part}
use Rattle.ts_field.proofs.Times.{time-part}
use Rattle.ts_crl.specs.declared.version.ListVersion.{ListVersion}
use Rattle.ts_crl.specs.declared.version.ListVersion.TheVariants.{V1, V2}
use Rattle.ts_crl.specs.List.{LocatedExtensions, LocatedEntry, LocatedTbsList, LocatedList}
use Rattle.ts_crl.specs.List.{RevokedCertificate, TbsCertList, CertificateList}
use Rattle.ts_crl.specs.List.{unlocated_extensions, unlocated_entry, said_tbs, unlocated_list}
use Rattle.ts_crl.specs.Reading.{wrapped_extensions_of, revoked_of, next_update_at, crl_tbs_of, crl_signed_of, crl_whole_of, shape_of}
use Rattle.ts_crl.specs.Encoding.{crl_version_octets, AreRevoked, IsTbsCertList, IsSignedCrl}
use Rattle.ts_crl.specs.Version.{crl_version_named, crl_version_of, crl_version_if, crl_version_at}
use Rattle.ts_crl.proofs.Saying.{say_at, unsaid_at, optional-say}
use Rattle.ts_crl.proofs.EntryParts.{wrapped_of, wrapped-unlocated, wrapped-value, stated_revoked_of, revoked-unlocated, revoked-value}
use Rattle.ts_crl.proofs.Readiness.{Ready, EntriesReady, ReadyTbs, optional-gets, wrapped-ready, revoked-ready, entries-if-any}
use Rattle.ts_crl.proofs.Updates.{update-found, update-again}

-- ---- versions

integer-ok : (b : Bool) (at : ℕ) (x y : List ℕ) → der (at_element at (value_unless (cond (not b) (Some IntegerForm) None) x)) ≡ Ok y → x ≡ y
integer-ok true at x y e = ok_is {E = CertFault} x y e
integer-ok false at x y e = absurd cc

named-found : (at : ℕ) (content : List ℕ) (v : ListVersion) → crl_version_named at content ≡ Ok v → encode 0x02 content ≡ crl_version_octets v
named-found at [] v e = absurd cc
named-found at (o ∷ p ∷ content) v e = absurd cc
named-found at (o ∷ []) v e = by_number (eqb o 1) refl e
  where
    by_number : (b : Bool) → eqb o 1 ≡ b → cond {A = Result ListVersion CertFault} b (Ok V2) (Err (breaks at Version)) ≡ Ok v → encode 0x02 (o ∷ []) ≡ crl_version_octets v
    by_number true t e = ap (λ (n : ℕ). encode 0x02 (n ∷ [])) (eqb-true o 1 t) ∙ ap crl_version_octets (ok_is {E = CertFault} V2 v e)
    by_number false t e = absurd cc

number-found : (e : Tlv) (v : ListVersion) → crl_version_of e ≡ Ok v → encode 0x02 e.content ≡ crl_version_octets v
unfolding crl_version_of
number-found e v read =
    let b = bind_ok (der (value_at integer_rules (λ c. c) e)) (λ content. crl_version_named e.at content) v read in
    ap (λ (c : List ℕ). encode 0x02 c) (integer-ok (is_shortest e.content) e.at e.content b.0 b.1) ∙ named-found e.at b.0 v b.2

version-found : (here : Place) (v : ListVersion) (after : Place) → AreOctets here.rest → crl_version_at here ≡ Ok (v, after) → here.rest ≡ crl_version_octets v ++ after.rest
unfolding crl_version_at
version-found here v after fits read =
    let o = bind_ok (der (optional_at 0x02 here)) _ (v, after) read in
    let k = bind_ok (crl_version_if o.0.0) (λ version. Ok (version, o.0.1)) (v, after) o.2 in
    let same : (k.0, o.0.1) ≡ (v, after) = ok_is {A = ListVersion × Place} {E = CertFault} (k.0, o.0.1) (v, after) k.2 in
    let s = element-if-any 0x02 here o.0.0 o.0.1 fits (der-ok (optional_at 0x02 here) o.0 o.1) in
    subst (λ (p : ListVersion × Place). here.rest ≡ crl_version_octets p.0 ++ p.1.rest) same (by_option o.0.0 o.0.1 k.0 s.0 k.1)
  where
    by_option : (x : Option Tlv) (behind : Place) (u : ListVersion) → StandsIfAny here x 0x02 behind → crl_version_if x ≡ Ok u → here.rest ≡ crl_version_octets u ++ behind.rest
    by_option None behind u stands r = ap (λ (p : Place). p.rest) (sym stands) ∙ ap (λ (w : ListVersion). crl_version_octets w ++ behind.rest) (ok_is {E = CertFault} V1 u r)
    by_option (Some e) behind u stands r =
        stands.0.whole
        ∙ (ap (λ (w : List ℕ). w ++ behind.rest) stands.0.encoded
        ∙ (ap (λ (t : ℕ). encode t e.content ++ behind.rest) stands.1 ∙ ap (λ (w : List ℕ). w ++ behind.rest) (number-found e u r)))

fits_number : Fits 0x02 (1 ∷ [])
fits_number = record { octet = omega arith; low = omega arith; short = omega arith }

version-again : (here : Place) (v : ListVersion) (rest : List ℕ) → begins_with 0x02 rest ≡ false → here.rest ≡ crl_version_octets v ++ rest
    → crl_version_at here ≡ Ok (v, record { rest = rest; at = here.at + length (crl_version_octets v) })
unfolding crl_version_at optional_at crl_version_of
version-again here V1 rest b e =
    let none : begins_with 0x02 here.rest ≡ false = ap (begins_with 0x02) e ∙ b in
    let at : here ≡ record { rest = rest; at = here.at + 0 } = ap (λ (r : List ℕ). record { rest = r; at = here.at }) e ∙ ap (λ (n : ℕ). record { rest = rest; at = n }) (omega arith) in
    rw none (ap (λ (p : Place). Ok (V1, p)) at)
version-again here V2 rest b e =
    let one = element-only here 0x02 (1 ∷ []) rest fits_number e in
    let there : begins_with 0x02 here.rest ≡ true = ap (begins_with 0x02) e in
    rw (there, one) refl

-- ---- what is signed

abbrev made : ListVersion → Algorithm → List (List Attr) → Time → Option Time → Option (List LocatedEntry) → Option LocatedExtensions → LocatedTbsList
made version signature issuer this next revoked extensions =
    record { version = version; signature = signature; issuer = issuer; thisUpdate = this; nextUpdate = next; revokedCertificates = revoked; crlExtensions = extensions }

tbs-found : (e : Tlv) (t : LocatedTbsList) → AreOctets e.content → crl_tbs_of e ≡ Ok t → IsTbsCertList e.content (said_tbs t) × ReadyTbs t
unfolding crl_tbs_of
tbs-found e t fits read =
    let v = bind_ok (crl_version_at (inside e)) _ t read in
    let a = bind_ok (der (algorithm_at v.0.1)) _ t v.2 in
    let i = bind_ok (der (name_at a.0.1)) _ t a.2 in
    let u = bind_ok (der (time_at i.0.1)) _ t i.2 in
    let n = bind_ok (der (next_update_at u.0.1)) _ t u.2 in
    let r = bind_ok (der (optional_of 0x30 revoked_of n.0.1)) _ t n.2 in
    let x = bind_ok (der (optional_of 0xA0 wrapped_extensions_of r.0.1)) _ t r.2 in
    let d = bind_ok (der (end_at x.0.1)) _ t x.2 in
    let same : made v.0.0 a.0.0 i.0.0 u.0.0 n.0.0 r.0.0 x.0.0 ≡ t = ok_is {A = LocatedTbsList} {E = CertFault} (made v.0.0 a.0.0 i.0.0 u.0.0 n.0.0 r.0.0 x.0.0) t d.2 in
    let version = version-found (inside e) v.0.0 v.0.1 fits v.1 in
    let algorithm = took algorithm-part v.0.1 a.0.0 a.0.1 (AreOctets-back (crl_version_octets v.0.0) v.0.1.rest (subst AreOctets version fits)) (der-ok (algorithm_at v.0.1) a.0 a.1) in
    let issuer = took name-part a.0.1 i.0.0 i.0.1 algorithm.3 (der-ok (name_at a.0.1) i.0 i.1) in
    let this = took time-part i.0.1 u.0.0 u.0.1 issuer.3 (der-ok (time_at i.0.1) u.0 u.1) in
    let next = update-found u.0.1 n.0.0 n.0.1 this.3 (der-ok (next_update_at u.0.1) n.0 n.1) in
    let stated_revoked : optional_of 0x30 stated_revoked_of n.0.1 ≡ Ok (option_map (map unlocated_entry) r.0.0, r.0.1) =
    optional-say 0x30 (map unlocated_entry) revoked_of stated_revoked_of revoked-unlocated n.0.1
    ∙ ap (λ (q : Result (Option (List LocatedEntry) × Place) Fault). say_at (option_map (map unlocated_entry)) q) (der-ok (optional_of 0x30 revoked_of n.0.1) r.0 r.1) in
    let revoked = optional-found 0x30 stated_revoked_of AreRevoked revoked-value n.0.1 (option_map (map unlocated_entry) r.0.0) r.0.1 next.3 stated_revoked in
    let stated_extensions : optional_of 0xA0 wrapped_of r.0.1 ≡ Ok (option_map unlocated_extensions x.0.0, x.0.1) =
    optional-say 0xA0 unlocated_extensions wrapped_extensions_of wrapped_of wrapped-unlocated r.0.1
    ∙ ap (λ (q : Result (Option LocatedExtensions × Place) Fault). say_at (option_map unlocated_extensions) q) (der-ok (optional_of 0xA0 wrapped_extensions_of r.0.1) x.0 x.1) in
    let extensions = optional-found 0xA0 wrapped_of (Within 0x30 AreExtensions) wrapped-value r.0.1 (option_map unlocated_extensions x.0.0) x.0.1 revoked.3 stated_extensions in
    let at_extensions : r.0.1.rest ≡ extensions.0 = extensions.2 ∙ (ap (λ (o : List ℕ). extensions.0 ++ o) (end-ok x.0.1 d.0 (der-ok (end_at x.0.1) d.0 d.1)) ∙ append-nil extensions.0) in
    let at_revoked : n.0.1.rest ≡ revoked.0 ++ extensions.0 = revoked.2 ∙ ap (λ (o : List ℕ). revoked.0 ++ o) at_extensions in
    let at_next : u.0.1.rest ≡ next.0 ++ (revoked.0 ++ extensions.0) = next.2 ∙ ap (λ (o : List ℕ). next.0 ++ o) at_revoked in
    let at_this : i.0.1.rest ≡ this.0 ++ (next.0 ++ (revoked.0 ++ extensions.0)) = this.2 ∙ ap (λ (o : List ℕ). this.0 ++ o) at_next in
    let at_issuer : a.0.1.rest ≡ issuer.0 ++ (this.0 ++ (next.0 ++ (revoked.0 ++ extensions.0))) = issuer.2 ∙ ap (λ (o : List ℕ). issuer.0 ++ o) at_this in
    let at_algorithm : v.0.1.rest ≡ algorithm.0 ++ (issuer.0 ++ (this.0 ++ (next.0 ++ (revoked.0 ++ extensions.0)))) = algorithm.2 ∙ ap (λ (o : List ℕ). algorithm.0 ++ o) at_issuer in
    let entries = entries-if-any r.0.0 (optional-gets 0x30 revoked_of EntriesReady revoked-ready n.0.1 r.0.0 r.0.1 next.3 (der-ok (optional_of 0x30 revoked_of n.0.1) r.0 r.1)) in
    let walked = optional-gets 0xA0 wrapped_extensions_of Ready wrapped-ready r.0.1 x.0.0 x.0.1 revoked.3 (der-ok (optional_of 0xA0 wrapped_extensions_of r.0.1) x.0 x.1) in
    subst (λ (y : LocatedTbsList). IsTbsCertList e.content (said_tbs y) × ReadyTbs y) same (
      record {
        algorithm = algorithm.0;
        issued_by = issuer.0;
        this = this.0;
        next = next.0;
        revoked = revoked.0;
        extensions = extensions.0;
        signature = algorithm.1;
        issuer = issuer.1;
        thisUpdate = this.1;
        nextUpdate = next.1;
        revokedCertificates = revoked.1;
        crlExtensions = extensions.1;
        fields = version ∙ ap (λ (o : List ℕ). crl_version_octets v.0.0 ++ o) at_algorithm;
      },
      (entries, walked),
    )

-- fields that were read one after another
joined : (e : Tlv) (t : TbsCertList) (p1 p2 p3 p4 p5 p6 p7 : Place) (rs : Option (List LocatedEntry)) (xs : Option LocatedExtensions)
    → crl_version_at (inside e) ≡ Ok (t.version, p1) → algorithm_at p1 ≡ Ok (t.signature, p2)
    → name_at p2 ≡ Ok (t.issuer, p3) → time_at p3 ≡ Ok (t.thisUpdate, p4)
    → next_update_at p4 ≡ Ok (t.nextUpdate, p5)
    → optional_of 0x30 revoked_of p5 ≡ Ok (rs, p6) → optional_of 0xA0 wrapped_extensions_of p6 ≡ Ok (xs, p7) → end_at p7 ≡ Ok tt
    → option_map (map unlocated_entry) rs ≡ t.revokedCertificates → option_map unlocated_extensions xs ≡ t.crlExtensions
    → (x : LocatedTbsList) × (crl_tbs_of e ≡ Ok x) × (said_tbs x ≡ t)
unfolding crl_tbs_of
joined e t p1 p2 p3 p4 p5 p6 p7 rs xs a b c d f g h z r x = (
  made t.version t.signature t.issuer t.thisUpdate t.nextUpdate rs xs,
  rw (a, b, c, d, f, g, h, z) refl,
  ap (λ (rs : Option (List RevokedCertificate)). stated rs (option_map unlocated_extensions xs)) r ∙ ap (λ (xs : Option (List Extension)). stated t.revokedCertificates xs) x,
)
  where
    stated : Option (List RevokedCertificate) → Option (List Extension) → TbsCertList
    stated rs xs =
        record { version = t.version; signature = t.signature; issuer = t.issuer; thisUpdate = t.thisUpdate; nextUpdate = t.nextUpdate; revokedCertificates = rs; crlExtensions = xs }

tbs-again : (e : Tlv) (t : TbsCertList) → IsTbsCertList e.content t → (x : LocatedTbsList) × (crl_tbs_of e ≡ Ok x) × (said_tbs x ≡ t)
tbs-again e t is =
    let r6 : List ℕ = is.extensions in
    let r5 : List ℕ = is.revoked ++ r6 in
    let r4 : List ℕ = is.next ++ r5 in
    let r3 : List ℕ = is.this ++ r4 in
    let r2 : List ℕ = is.issued_by ++ r3 in
    let r1 : List ℕ = is.algorithm ++ r2 in
    let no_sequence : begins_with 0x30 r6 ≡ false = ends 0x30 refl in
    let no_utc : begins_with 0x17 r5 ≡ false = begins-if-any 0x30 AreRevoked is.revoked t.revokedCertificates is.revokedCertificates 0x17 refl r6 (ends 0x17 refl) in
    let no_general : begins_with 0x18 r5 ≡ false = begins-if-any 0x30 AreRevoked is.revoked t.revokedCertificates is.revokedCertificates 0x18 refl r6 (ends 0x18 refl) in
    let no_version : begins_with 0x02 r1 ≡ false = ap (λ (o : List ℕ). begins_with 0x02 (o ++ r2)) is.signature.encoded in
    let v = version-again (inside e) t.version r1 no_version is.fields in
    let p1 : Place = record { rest = r1; at = e.start + length (crl_version_octets t.version) } in
    let a = algorithm-part.again p1 t.signature is.algorithm r2 is.signature refl in
    let p2 : Place = record { rest = r2; at = p1.at + length is.algorithm } in
    let i = name-part.again p2 t.issuer is.issued_by r3 is.issuer refl in
    let p3 : Place = record { rest = r3; at = p2.at + length is.issued_by } in
    let u = time-part.again p3 t.thisUpdate is.this r4 is.thisUpdate refl in
    let p4 : Place = record { rest = r4; at = p3.at + length is.this } in
    let n = update-again p4 t.nextUpdate is.next r5 is.nextUpdate no_utc no_general refl in
    let p5 : Place = record { rest = r5; at = p4.at + length is.next } in
    let r = optional-again 0x30 stated_revoked_of AreRevoked revoked-value p5 t.revokedCertificates is.revoked r6 is.revokedCertificates no_sequence refl in
    let p6 : Place = record { rest = r6; at = p5.at + length is.revoked } in
    let rs = unsaid_at (option_map (map unlocated_entry)) (optional_of 0x30 revoked_of p5)
    t.revokedCertificates p6
    (sym (optional-say 0x30 (map unlocated_entry) revoked_of stated_revoked_of revoked-unlocated
    p5) ∙ r) in
    let x = optional-again 0xA0 wrapped_of (Within 0x30 AreExtensions) wrapped-value p6 t.crlExtensions is.extensions [] is.crlExtensions refl (sym (append-nil is.extensions)) in
    let p7 : Place = record { rest = []; at = p6.at + length is.extensions } in
    let xs = unsaid_at (option_map unlocated_extensions) (optional_of 0xA0 wrapped_extensions_of p6)
    t.crlExtensions p7 (sym
    (optional-say 0xA0 unlocated_extensions wrapped_extensions_of wrapped_of wrapped-unlocated
    p6) ∙ x) in
    joined e t p1 p2 p3 p4 p5 p6 p7 rs.0 xs.0 v a i u n rs.1 xs.1 (end-again p7.at) rs.2 xs.2
  where
    ends : (other : ℕ) → eqb 0xA0 other ≡ false → begins_with other is.extensions ≡ false
    ends other e =
        ap (begins_with other) (sym (append-nil is.extensions))
        ∙ begins-if-any 0xA0 (Within 0x30 AreExtensions) is.extensions t.crlExtensions is.crlExtensions other e [] refl

-- ---- what is signed, with its signature

signed-found : (e : Tlv) (s : LocatedList) → AreOctets e.content → crl_signed_of e ≡ Ok s → IsSignedCrl e.content (unlocated_list s) × ReadyTbs s.tbsCertList
unfolding crl_signed_of
signed-found e s fits read =
    let t = bind_ok (der (element_at 0x30 (inside e))) _ s read in
    let f = bind_ok (crl_tbs_of t.0.0) _ s t.2 in
    let i = bind_ok (der (element_at 0x30 t.0.1)) _ s f.2 in
    let a = bind_ok (der (algorithm_of i.0.0)) _ s i.2 in
    let b = bind_ok (der (bits_at i.0.1)) _ s a.2 in
    let d = bind_ok (der (end_at b.0.1)) _ s b.2 in
    let made : LocatedList = record { tbs = t.0.0.whole; tbsCertList = f.0; signatureAlgorithm = a.0; identifier_at = i.0.0.at; signatureValue = b.0.0 } in
    let same : made ≡ s = ok_is {A = LocatedList} {E = CertFault} made s d.2 in
    let tbs = element-took 0x30 (inside e) t.0.0 t.0.1 fits (der-ok (element_at 0x30 (inside e)) t.0 t.1) in
    let identifier = element-took 0x30 t.0.1 i.0.0 i.0.1 tbs.outer (der-ok (element_at 0x30 t.0.1) i.0 i.1) in
    let bits = took bits-part i.0.1 b.0.0 b.0.1 identifier.outer (der-ok (bits_at i.0.1) b.0 b.1) in
    let at_bits : i.0.1.rest ≡ bits.0 = bits.2 ∙ (ap (λ (r : List ℕ). bits.0 ++ r) (end-ok b.0.1 d.0 (der-ok (end_at b.0.1) d.0 d.1)) ∙ append-nil bits.0) in
    let at_identifier : t.0.1.rest ≡ i.0.0.whole ++ bits.0 = identifier.whole ∙ ap (λ (r : List ℕ). i.0.0.whole ++ r) at_bits in
    let algorithm = algorithm-value.found i.0.0 a.0 identifier.inner identifier.encoded (der-ok (algorithm_of i.0.0) a.0 a.1) in
    let fields = tbs-found t.0.0 f.0 tbs.inner f.1 in
    subst (λ (x : LocatedList). IsSignedCrl e.content (unlocated_list x) × ReadyTbs x.tbsCertList) same (
      record {
        identifier = i.0.0.whole;
        bits = bits.0;
        tbsCertList = record { content = t.0.0.content; fits = tbs.fits; encoded = tbs.encoded; value = fields.0 };
        signatureAlgorithm = record { content = i.0.0.content; fits = identifier.fits; encoded = identifier.encoded; value = algorithm };
        signatureValue = bits.1;
        fields = tbs.whole ∙ ap (λ (r : List ℕ). t.0.0.whole ++ r) at_identifier;
      },
      fields.1,
    )

-- the parts of a list that were read one after another
signed_joined : (e first second : Tlv) (c : CertificateList) (p1 p2 p3 : Place) (fields : LocatedTbsList)
    → element_at 0x30 (inside e) ≡ Ok (first, p1) → crl_tbs_of first ≡ Ok fields
    → element_at 0x30 p1 ≡ Ok (second, p2) → algorithm_of second ≡ Ok c.signatureAlgorithm
    → bits_at p2 ≡ Ok (c.signatureValue, p3)
    → end_at p3 ≡ Ok tt → first.whole ≡ c.tbs → said_tbs fields ≡ c.tbsCertList
    → (x : LocatedList) × (crl_signed_of e ≡ Ok x) × (unlocated_list x ≡ c)
unfolding crl_signed_of
signed_joined e first second c p1 p2 p3 fields a b d f g h w t = (
  record { tbs = first.whole; tbsCertList = fields; signatureAlgorithm = c.signatureAlgorithm; identifier_at = second.at; signatureValue = c.signatureValue },
  rw (a, b, d, f, g, h) refl,
  ap (λ (o : List ℕ). stated o (said_tbs fields)) w ∙ ap (λ (l : TbsCertList). stated c.tbs l) t,
)
  where
    stated : List ℕ → TbsCertList → CertificateList
    stated o l = record { tbs = o; tbsCertList = l; signatureAlgorithm = c.signatureAlgorithm; signatureValue = c.signatureValue }

signed-again : (e : Tlv) (c : CertificateList) → IsSignedCrl e.content c → (x : LocatedList) × (crl_signed_of e ≡ Ok x) × (unlocated_list x ≡ c)
signed-again e c is =
    let t = is.tbsCertList in
    let a = is.signatureAlgorithm in
    let r2 : List ℕ = is.bits in
    let r1 : List ℕ = is.identifier ++ r2 in
    let first = element-only (inside e) 0x30 t.content r1 t.fits (is.fields ∙ ap (λ (o : List ℕ). o ++ r1) t.encoded) in
    let tlv : Tlv = encoded_at e.start 0x30 t.content in
    let fields = tbs-again tlv c.tbsCertList t.value in
    let p1 : Place = record { rest = r1; at = e.start + length (encode 0x30 t.content) } in
    let second = element-only p1 0x30 a.content r2 a.fits (ap (λ (o : List ℕ). o ++ r2) a.encoded) in
    let identifier : Tlv = encoded_at p1.at 0x30 a.content in
    let algorithm = algorithm-value.again identifier c.signatureAlgorithm refl a.value in
    let p2 : Place = record { rest = r2; at = p1.at + length (encode 0x30 a.content) } in
    let bits = bits-part.again p2 c.signatureValue is.bits [] is.signatureValue (sym (append-nil is.bits)) in
    let p3 : Place = record { rest = []; at = p2.at + length is.bits } in
    signed_joined e tlv identifier c p1 p2 p3 fields.0 first fields.1 second algorithm bits (end-again p3.at) (sym t.encoded) fields.2

-- ---- lists

whole-found : (octets : List ℕ) (s : LocatedList) → AreOctets octets → crl_whole_of octets ≡ Ok s → Within 0x30 IsSignedCrl octets (unlocated_list s) × ReadyTbs s.tbsCertList
unfolding crl_whole_of
whole-found octets s fits read =
    let here : Place = record { rest = octets; at = 0 } in
    let e = bind_ok (der (element_at 0x30 here)) _ s read in
    let l = bind_ok (crl_signed_of e.0.0) _ s e.2 in
    let d = bind_ok (der (end_at e.0.1)) _ s l.2 in
    let t = element-took 0x30 here e.0.0 e.0.1 fits (der-ok (element_at 0x30 here) e.0 e.1) in
    let whole : octets ≡ e.0.0.whole = t.whole ∙ (ap (λ (r : List ℕ). e.0.0.whole ++ r) (end-ok e.0.1 d.0 (der-ok (end_at e.0.1) d.0 d.1)) ∙ append-nil e.0.0.whole) in
    let is = signed-found e.0.0 l.0 t.inner l.1 in
    subst (λ (x : LocatedList). Within 0x30 IsSignedCrl octets (unlocated_list x) × ReadyTbs x.tbsCertList) (ok_is {A = LocatedList} {E = CertFault} l.0 s d.2)
    (record { content = e.0.0.content; fits = t.fits; encoded = whole ∙ t.encoded; value = is.0 }, is.1)

pub shape-found : (octets : List ℕ) (s : LocatedList) → AreOctets octets → shape_of octets ≡ Ok s
    → (length octets ≤ 4194304) × Within 0x30 IsSignedCrl octets (unlocated_list s)
    × ReadyTbs s.tbsCertList
unfolding shape_of
shape-found octets s fits read = by_size (ltb 4194304 (length octets)) refl read
  where
    by_size : (b : Bool) → ltb 4194304 (length octets) ≡ b
        → cond b (Err (breaks 0 (Der TooLarge))) (crl_whole_of octets) ≡ Ok s
        → (length octets ≤ 4194304) × Within 0x30 IsSignedCrl octets (unlocated_list s)
        × ReadyTbs s.tbsCertList
    by_size true t e = absurd cc
    by_size false t e = let w = whole-found octets s fits e in (ltb-false 4194304 (length octets) t, w.0, w.1)

whole-joined : (octets : List ℕ) (e : Tlv) (p : Place) (s : LocatedList)
    → element_at 0x30 (record { rest = octets; at = 0 }) ≡ Ok (e, p) → crl_signed_of e ≡ Ok s
    → end_at p ≡ Ok tt → crl_whole_of octets ≡ Ok s
unfolding crl_whole_of
whole-joined octets e p s a b c = rw (a, b, c) refl

pub shape-again : (octets : List ℕ) (c : CertificateList) → length octets ≤ 4194304 → Within 0x30 IsSignedCrl octets c → (s : LocatedList) × (shape_of octets ≡ Ok s) × (unlocated_list s ≡ c)
unfolding shape_of
shape-again octets c le w =
    let here : Place = record { rest = octets; at = 0 } in
    let small : ltb 4194304 (length octets) ≡ false = le-ltb 4194304 (length octets) le in
    let one = element-only here 0x30 w.content [] w.fits (w.encoded ∙ sym (append-nil (encode 0x30 w.content))) in
    let e : Tlv = encoded_at 0 0x30 w.content in
    let s = signed-again e c w.value in
    let p : Place = record { rest = []; at = 0 + length (encode 0x30 w.content) } in
    let read = whole-joined octets e p s.0 one s.1 (end-again p.at) in
    (s.0, ap (λ (b : Bool). cond b (Err (breaks 0 (Der TooLarge))) (crl_whole_of octets)) small ∙ read, s.2)
