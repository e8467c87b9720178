-- Entries that were read are found again by their serial numbers.
use Rattle.std.proofs.Common.{◌≡◌, ℕ, zero, suc, Bool, true, false, not, cond, eqb, List, [], ◌∷◌, length, Option, Some, None, Result, Ok, Err, refl, sym, ap, subst, ◌∙◌}
use Rattle.std.specs.List.{find}
use Rattle.std.specs.Prelude.{map, option_map}
use Rattle.std.specs.Result.{result_ok}
use Rattle.std.specs.Str.{bytes_eq}
use Rattle.ts_der.specs.declared.fault.DerFault.TheVariants.{IntegerForm}
use Rattle.ts_der.specs.declared.fault.Fault.{Fault}
use Rattle.ts_der.specs.Answer.{◌>>=◌, Answers, refusal}
use Rattle.ts_der.specs.Element.{Place, Tlv, inside}
use Rattle.ts_der.specs.Integer.{is_shortest, integer_rules}
use Rattle.ts_der.specs.Reading.{is_end, next_at, element_at, value_at, end_at, at_element, many_from, many}
use Rattle.ts_der.specs.Rules.{value_unless}
use Rattle.ts_der.proofs.Laws.{bind_ok, ok_is}
use Rattle.ts_shape.specs.Fields.{integer_at, optional_of, within}
use Rattle.ts_shape.specs.Items.{each, tagged_as, of_tag, first_then, upto_from, items_at}
use Rattle.ts_field.specs.Time.{time_at}
use Rattle.ts_crl.specs.declared.entry.Entry.{Entry}
use Rattle.ts_crl.specs.Entries.{has_serial}
use Rattle.ts_crl.specs.EntryView.{entry_as, entry_in as said_in}
use Rattle.ts_crl.specs.List.{LocatedEntry, unlocated_entry}
use Rattle.ts_crl.specs.inside.Marks.{Mark, mark_of}
use Rattle.ts_crl.specs.Reading.{located_extensions_of, entry_of, located_entry_of, revoked_of}
use Rattle.ts_crl.proofs.Walks.{many-walked}

-- ---- one entry

value-is : (b : Bool) (at : ℕ) (x y : List ℕ) → at_element at (value_unless (cond (not b) (Some IntegerForm) None) x) ≡ Ok y → x ≡ y
value-is true at x y e = ok_is {E = Fault} x y e
value-is false at x y e = absurd cc

-- the mark of an entry
abbrev mark : LocatedEntry → Tlv → Mark
mark x e = record { userCertificate = x.userCertificate; entry = e }

entry-marked : (e : Tlv) (x : LocatedEntry) → entry_of e ≡ Ok x → mark_of e ≡ Ok (mark x e)
unfolding entry_of mark_of integer_at within
entry-marked e x read =
    let n = bind_ok (integer_at (inside e)) _ x read in
    let d = bind_ok (time_at n.0.1) _ x n.2 in
    let o = bind_ok (optional_of 0x30 located_extensions_of d.0.1) _ x d.2 in
    let z = bind_ok (end_at o.0.1) _ x o.2 in
    let made : LocatedEntry = record { userCertificate = n.0.0; revocationDate = d.0.0; crlEntryExtensions = o.0.0 } in
    let same : made ≡ x = ok_is {A = LocatedEntry} {E = Fault} made x z.2 in
    let i = bind_ok (element_at 0x02 (inside e)) (λ i. value_at integer_rules (λ c. c) i.0 >>= λ y. Ok (y, i.1)) n.0 n.1 in
    let v = bind_ok (value_at integer_rules (λ c. c) i.0.0) (λ y. Ok (y, i.0.1)) n.0 i.2 in
    let whole : i.0.0.content ≡ v.0 = value-is (is_shortest i.0.0.content) i.0.0.at i.0.0.content v.0 v.1 in
    let number : v.0 ≡ n.0.0 = ap (λ (p : List ℕ × Place). p.0) (ok_is {A = List ℕ × Place} {E = Fault} (v.0, i.0.1) n.0 v.2) in
    rw i.1 (ap (λ (s : List ℕ). Ok (record { userCertificate = s; entry = e })) (whole ∙ (number ∙ ap (λ (y : LocatedEntry). y.userCertificate) same)))

tagged-marked : (e : Tlv) (x : LocatedEntry) → located_entry_of e ≡ Ok x → mark_of e ≡ Ok (mark x e)
unfolding of_tag tagged_as
tagged-marked e x read = by_tag (eqb e.tag 0x30) _ read
  where
    by_tag : (b : Bool) (f : Fault) → (cond {A = Result Tlv Fault} b (Ok e) (Err f) >>= entry_of) ≡ Ok x → mark_of e ≡ Ok (mark x e)
    by_tag true f r = entry-marked e x r
    by_tag false f r = absurd cc

-- ---- all of them

abbrev pub Marked : List LocatedEntry → List Mark → Type 0
Marked [] [] = Unit {0}
Marked (x ∷ xs) (m ∷ ms) = (located_entry_of m.entry ≡ Ok x) × (m.userCertificate ≡ x.userCertificate) × Marked xs ms
Marked [] (m ∷ ms) = ⊥
Marked (x ∷ xs) [] = ⊥

-- the entry that is next, and its mark
record Next (here : Place) (x : LocatedEntry) (after : Place) : Type 0 where
  pub element : Tlv
  pub read : located_entry_of element ≡ Ok x
  pub marked : each mark_of here ≡ Ok (mark x element, after)

stands-marked : (here : Place) (e : Tlv) (after : Place) (x : LocatedEntry) → next_at here ≡ Ok (e, after) → located_entry_of e ≡ Ok x → each mark_of here ≡ Ok (mark x e, after)
unfolding each
stands-marked here e after x next read = rw (next, tagged-marked e x read) refl

next-marked : (here : Place) (x : LocatedEntry) (after : Place) → each located_entry_of here ≡ Ok (x, after) → Next here x after
unfolding each
next-marked here x after read =
    let e = bind_ok (next_at here) (λ e. located_entry_of e.0 >>= λ y. Ok (y, e.1)) (x, after) read in
    let v = bind_ok (located_entry_of e.0.0) (λ y. Ok (y, e.0.1)) (x, after) e.2 in
    subst (λ (p : LocatedEntry × Place). Next here p.0 p.1) (ok_is {A = LocatedEntry × Place} {E = Fault} (v.0, e.0.1) (x, after) v.2)
    (record { element = e.0.0; read = v.1; marked = stands-marked here e.0.0 e.0.1 v.0 e.1 v.1 })

all-marked : (n : ℕ) (here : Place) (xs : List LocatedEntry) → many_from n (each located_entry_of) here ≡ Ok xs → Marked xs (upto_from n mark_of here)
all-marked zero here xs read = subst (λ (ys : List LocatedEntry). Marked ys []) (ok_is {A = List LocatedEntry} {E = Fault} [] xs read) tt
all-marked (suc n) here xs read = by_end (λ after ys r. all-marked n after ys r) (is_end here.rest) read
  where
    they : Type 0
    they = (after : Place) (ys : List LocatedEntry) → many_from n (each located_entry_of) after ≡ Ok ys → Marked ys (upto_from n mark_of after)

    others : LocatedEntry × Place → Result (List LocatedEntry) Fault
    others x = many_from n (each located_entry_of) x.1 >>= λ ys. Ok (x.0 ∷ ys)

    by_end : they → (b : Bool) → cond b (Ok []) (each located_entry_of here >>= others) ≡ Ok xs → Marked xs (cond b [] (first_then (each mark_of here) (upto_from n mark_of)))
    by_end more true r = subst (λ (ys : List LocatedEntry). Marked ys []) (ok_is {A = List LocatedEntry} {E = Fault} [] xs r) tt
    by_end more false r =
        let x = bind_ok (each located_entry_of here) others xs r in
        let ys = bind_ok (many_from n (each located_entry_of) x.0.1) (λ ys. Ok (x.0.0 ∷ ys)) xs x.2 in
        let next = next-marked here x.0.0 x.0.1 x.1 in
        let are : Marked (x.0.0 ∷ ys.0) (first_then (each mark_of here) (upto_from n mark_of)) = rw next.marked (next.read, refl, more x.0.1 ys.0 ys.1) in
        subst (λ (zs : List LocatedEntry). Marked zs (first_then (each mark_of here) (upto_from n mark_of))) (ok_is {A = List LocatedEntry} {E = Fault} (x.0.0 ∷ ys.0) xs ys.2) are

-- ---- the first of a serial number

-- what is found by its mark is the entry
abbrev pub Found : List ℕ → List LocatedEntry → Option Mark → Type 0
Found s xs None = find (has_serial s) (map unlocated_entry xs) ≡ None
Found s xs (Some m) = (x : LocatedEntry) × (located_entry_of m.entry ≡ Ok x) × (find (has_serial s) (map unlocated_entry xs) ≡ Some (unlocated_entry x))

find-marked : (s : List ℕ) (xs : List LocatedEntry) (ms : List Mark) → Marked xs ms → Found s xs (find (λ m. bytes_eq m.userCertificate s) ms)
find-marked s [] [] are = refl
find-marked s [] (m ∷ ms) are = absurd are
find-marked s (x ∷ xs) [] are = absurd are
find-marked s (x ∷ xs) (m ∷ ms) are = by_test (find-marked s xs ms are.2) (bytes_eq x.userCertificate s) (bytes_eq m.userCertificate s) refl (ap (λ (o : List ℕ). bytes_eq o s) are.1)
  where
    by_test : Found s xs (find (λ m. bytes_eq m.userCertificate s) ms) → (a b : Bool) → bytes_eq x.userCertificate s ≡ a → b ≡ bytes_eq x.userCertificate s
        → Found s (x ∷ xs) (cond b (Some m) (find (λ m. bytes_eq m.userCertificate s) ms))
    by_test more true b t same = let b_is : b ≡ true = same ∙ t in rw b_is (x, are.0, rw t refl)
    by_test more false b t same = let b_is : b ≡ false = same ∙ t in rw b_is (further (find (λ m. bytes_eq m.userCertificate s) ms) more)
      where
        further : (o : Option Mark) → Found s xs o → Found s (x ∷ xs) o
        further None n = rw t n
        further (Some m) f = (f.0, f.1, rw t f.2)

pub are-marked : (e : Tlv) → None ≡ refusal (revoked_of e) → Marked (items_at located_entry_of (inside e)) (items_at mark_of (inside e))
unfolding many items_at
are-marked e ok = all-marked (length e.content) (inside e) (items_at located_entry_of (inside e)) (many-walked located_entry_of (inside e) ok)

pub first-marked : (e : Tlv) (s : List ℕ) → None ≡ refusal (revoked_of e) → Found s (items_at located_entry_of (inside e)) (find (λ m. bytes_eq m.userCertificate s) (items_at mark_of (inside e)))
first-marked e s ok = find-marked s (items_at located_entry_of (inside e)) (items_at mark_of (inside e)) (are-marked e ok)

-- ---- and it is read once more

pub read-again : (r : Result Entry Fault) (reading : Result LocatedEntry Fault) (x : LocatedEntry)
    → Answers entry_as r reading → reading ≡ Ok x
    → option_map said_in (result_ok r) ≡ Some (unlocated_entry x)
read-again (Ok y) reading x answers read = ap (λ (z : LocatedEntry). Some (unlocated_entry z)) (ok_is {A = LocatedEntry} {E = Fault} (entry_as y) x (sym answers ∙ read))
read-again (Err f) reading x answers read = absurd (let no = sym answers ∙ read in cc)
