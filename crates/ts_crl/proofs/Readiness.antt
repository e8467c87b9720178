-- The values of the extensions of a list that was read are octets.
use Rattle.std.proofs.Common.{◌≡◌, ℕ, zero, suc, Bool, true, false, cond, List, [], ◌∷◌, ◌++◌, Option, Some, None, Result, Ok, Err, ap, subst, ◌∙◌}
use Rattle.std.specs.Prelude.{length, unwrap_or}
use Rattle.ts_der.specs.declared.fault.Fault.{Fault}
use Rattle.ts_der.specs.Octets.{AreOctets}
use Rattle.ts_der.specs.Answer.{◌>>=◌}
use Rattle.ts_der.specs.Element.{Place, Tlv, inside}
use Rattle.ts_der.specs.Reading.{begins_with, is_end, next_at, element_at, end_at, many_from, many}
use Rattle.ts_der.proofs.Elements.{next-found}
use Rattle.ts_der.proofs.Laws.{bind_ok, ok_is}
use Rattle.ts_der.proofs.OctetLists.{AreOctets-part, AreOctets-back}
use Rattle.ts_shape.specs.Fields.{integer_at, optional_of}
use Rattle.ts_shape.specs.Items.{each, alone, tagged_as, of_tag, some_of}
use Rattle.ts_shape.proofs.FieldParts.{integer-part}
use Rattle.ts_shape.proofs.Parts.{took, element-took}
use Rattle.ts_extensions.specs.Extension.{located_in}
use Rattle.ts_extensions.proofs.ValidExtensions.{AllOctets, some-octets}
use Rattle.ts_field.specs.Time.{time_at}
use Rattle.ts_field.proofs.Times.{time-part}
use Rattle.ts_crl.specs.List.{LocatedExtensions, LocatedEntry, LocatedTbsList}
use Rattle.ts_crl.specs.Reading.{located_extensions_of, wrapped_extensions_of, entry_of, located_entry_of, revoked_of}

-- extensions whose values are octets
abbrev pub Ready : LocatedExtensions → Type 0
Ready x = AllOctets x.extensions

abbrev pub IfReady : {A : Type 0} → (A → Type 0) → Option A → Type 0
IfReady P None = Unit {0}
IfReady P (Some x) = P x

abbrev pub EntriesReady : List LocatedEntry → Type 0
EntriesReady [] = Unit {0}
EntriesReady (e ∷ es) = IfReady Ready e.crlEntryExtensions × EntriesReady es

abbrev pub ReadyTbs : LocatedTbsList → Type 0
ReadyTbs t = EntriesReady (unwrap_or t.revokedCertificates []) × IfReady Ready t.crlExtensions

-- what is read of the content of elements has a property
abbrev pub Gets : {A : Type 0} → (Tlv → Result A Fault) → (A → Type 0) → Type 0
Gets {A} value P = (e : Tlv) (x : A) → AreOctets e.content → value e ≡ Ok x → P x

some-ready : Gets (some_of located_in) AllOctets
some-ready = some-octets

tagged-is : (tag : ℕ) (e y : Tlv) → tagged_as tag e ≡ Ok y → e ≡ y
unfolding tagged_as
tagged-is tag e y r = by_tag _ y _ r
  where
    by_tag : (b : Bool) (y : Tlv) (f : Fault) → cond {A = Result Tlv Fault} b (Ok e) (Err f) ≡ Ok y → e ≡ y
    by_tag true y f r = ok_is {E = Fault} e y r
    by_tag false y f r = absurd cc

-- the element that is next, if it has a tag
each-gets : {A : Type 0} (tag : ℕ) (value : Tlv → Result A Fault) (P : A → Type 0) → Gets value P
    → (here : Place) (x : A) (after : Place) → AreOctets here.rest → each (of_tag tag value) here ≡ Ok (x, after) → P x × AreOctets after.rest
unfolding each of_tag
each-gets {A} tag value P all here x after fits read =
    let n = bind_ok (next_at here) (λ e. of_tag tag value e.0 >>= λ v. Ok (v, e.1)) (x, after) read in
    let v = bind_ok (of_tag tag value n.0.0) (λ v. Ok (v, n.0.1)) (x, after) n.2 in
    let t = bind_ok (tagged_as tag n.0.0) value v.0 v.1 in
    let s = next-found here n.0.0 n.0.1 fits n.1 in
    let inner : AreOctets n.0.0.content = AreOctets-part n.0.0.tag n.0.0.content n.0.1.rest (subst AreOctets (s.whole ∙ ap (λ (w : List ℕ). w ++ n.0.1.rest) s.encoded) fits) in
    let outer : AreOctets n.0.1.rest = AreOctets-back n.0.0.whole n.0.1.rest (subst AreOctets s.whole fits) in
    subst (λ (p : A × Place). P p.0 × AreOctets p.1.rest) (ok_is {A = A × Place} {E = Fault} (v.0, n.0.1) (x, after) v.2)
    (all t.0 v.0 (subst (λ (y : Tlv). AreOctets y.content) (tagged-is tag n.0.0 t.0 t.1) inner) t.2, outer)

alone-gets : {A : Type 0} (tag : ℕ) (value : Tlv → Result A Fault) (P : A → Type 0) → Gets value P → Gets (alone (of_tag tag value)) P
unfolding alone
alone-gets {A} tag value P all e x fits read =
    let a = bind_ok (each (of_tag tag value) (inside e)) _ x read in
    let d = bind_ok (end_at a.0.1) _ x a.2 in
    subst P (ok_is {A = A} {E = Fault} a.0.0 x d.2) (each-gets tag value P all (inside e) a.0.0 a.0.1 fits a.1).0

pub optional-gets : {A : Type 0} (tag : ℕ) (value : Tlv → Result A Fault) (P : A → Type 0) → Gets value P
    → (here : Place) (x : Option A) (after : Place) → AreOctets here.rest → optional_of tag value here ≡ Ok (x, after) → IfReady P x
unfolding optional_of
optional-gets {A} tag value P all here x after fits read = by_start (begins_with tag here.rest) read
  where
    by_start : (b : Bool) → cond {A = Result (Option A × Place) Fault} b (element_at tag here >>= λ e. value e.0 >>= λ y. Ok (Some y, e.1)) (Ok (None, here)) ≡ Ok (x, after) → IfReady P x
    by_start false e = subst (λ (p : Option A × Place). IfReady P p.0) (ok_is {A = Option A × Place} {E = Fault} (None, here) (x, after) e) tt
    by_start true e =
        let b = bind_ok (element_at tag here) (λ e. value e.0 >>= λ y. Ok (Some y, e.1)) (x, after) e in
        let y = bind_ok (value b.0.0) (λ y. Ok (Some y, b.0.1)) (x, after) b.2 in
        let s = element-took tag here b.0.0 b.0.1 fits b.1 in
        subst (λ (p : Option A × Place). IfReady P p.0) (ok_is {A = Option A × Place} {E = Fault} (Some y.0, b.0.1) (x, after) y.2) (all b.0.0 y.0 s.inner y.1)

-- ---- extensions

extensions-ready : Gets located_extensions_of Ready
unfolding located_extensions_of
extensions-ready e x fits read =
    let s = bind_ok (some_of located_in e) _ x read in
    subst Ready (ok_is {A = LocatedExtensions} {E = Fault} (record { at = e.at; extensions = s.0 }) x s.2) (some-ready e s.0 fits s.1)

pub wrapped-ready : Gets wrapped_extensions_of Ready
unfolding wrapped_extensions_of
wrapped-ready e x fits read =
    let s = bind_ok (alone (of_tag 0x30 (some_of located_in)) e) _ x read in
    subst Ready (ok_is {A = LocatedExtensions} {E = Fault} (record { at = e.at; extensions = s.0 }) x s.2) (alone-gets 0x30 (some_of located_in) AllOctets some-ready e s.0 fits s.1)

-- ---- entries

entry-ready : Gets entry_of (λ x. IfReady Ready x.crlEntryExtensions)
unfolding entry_of
entry-ready e x fits read =
    let s = bind_ok (integer_at (inside e)) _ x read in
    let d = bind_ok (time_at s.0.1) _ x s.2 in
    let o = bind_ok (optional_of 0x30 located_extensions_of d.0.1) _ x d.2 in
    let z = bind_ok (end_at o.0.1) _ x o.2 in
    let made : LocatedEntry = record { userCertificate = s.0.0; revocationDate = d.0.0; crlEntryExtensions = o.0.0 } in
    let serial = took integer-part (inside e) s.0.0 s.0.1 fits s.1 in
    let date = took time-part s.0.1 d.0.0 d.0.1 serial.3 d.1 in
    subst (λ (y : LocatedEntry). IfReady Ready y.crlEntryExtensions) (ok_is {A = LocatedEntry} {E = Fault} made x z.2)
    (optional-gets 0x30 located_extensions_of Ready extensions-ready d.0.1 o.0.0 o.0.1 date.3 o.1)

entries-ready : (n : ℕ) (here : Place) (xs : List LocatedEntry) → AreOctets here.rest → many_from n (each located_entry_of) here ≡ Ok xs → EntriesReady xs
entries-ready zero here xs fits read = subst EntriesReady (ok_is {A = List LocatedEntry} {E = Fault} [] xs read) tt
entries-ready (suc n) here xs fits read = by_end (λ after ys fits more. entries-ready n after ys fits more) (is_end here.rest) read
  where
    by_end : ((after : Place) (ys : List LocatedEntry) → AreOctets after.rest → many_from n (each located_entry_of) after ≡ Ok ys → EntriesReady ys)
        → (b : Bool) → cond b (Ok []) (each located_entry_of here >>= λ x. many_from n (each located_entry_of) x.1 >>= λ ys. Ok (x.0 ∷ ys)) ≡ Ok xs → EntriesReady xs
    by_end more true e = subst EntriesReady (ok_is {A = List LocatedEntry} {E = Fault} [] xs e) tt
    by_end more false e =
        let a = bind_ok (each located_entry_of here) (λ x. many_from n (each located_entry_of) x.1 >>= λ ys. Ok (x.0 ∷ ys)) xs e in
        let b = bind_ok (many_from n (each located_entry_of) a.0.1) (λ ys. Ok (a.0.0 ∷ ys)) xs a.2 in
        let first = each-gets 0x30 entry_of (λ x. IfReady Ready x.crlEntryExtensions) entry-ready here a.0.0 a.0.1 fits a.1 in
        subst EntriesReady (ok_is {A = List LocatedEntry} {E = Fault} (a.0.0 ∷ b.0) xs b.2) (first.0, more a.0.1 b.0 first.1 b.1)

pub revoked-ready : Gets revoked_of EntriesReady
unfolding many
revoked-ready e xs fits read = entries-ready (length e.content) (inside e) xs fits read

pub entries-if-any : (o : Option (List LocatedEntry)) → IfReady EntriesReady o → EntriesReady (unwrap_or o [])
entries-if-any None are = tt
entries-if-any (Some es) are = are
