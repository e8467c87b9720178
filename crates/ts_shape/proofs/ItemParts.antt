-- Items one after another: what is read is encoded so, what is encoded so is read, the first rule that is broken, and walks.
use Rattle.std.proofs.Common.{◌≡◌, ◌≢◌, ℕ, zero, suc, ◌+◌, ◌<◌, ◌≤◌, Bool, true, false, cond, eqb, List, [], ◌∷◌, ◌++◌, length, Option, Some, None, Result, Ok, Err, refl, sym, ap, subst, ◌∙◌, arith}
use Rattle.std.specs.Prelude.{option_map}
use Rattle.std.proofs.lemmas.Bool.{eqb-true, eqb-false}
use Rattle.std.proofs.lemmas.List.{append-nil}
use Rattle.ts_der.specs.declared.fault.Fault.{Fault}
use Rattle.ts_der.specs.declared.fault.DerFault.TheVariants.{Empty, WrongTag}
use Rattle.ts_der.specs.Octets.{AreOctets}
use Rattle.ts_der.specs.Answer.{◌>>=◌, refusal}
use Rattle.ts_der.specs.Rules.{value_unless}
use Rattle.ts_der.specs.Element.{Place, Tlv, inside, encoded_at}
use Rattle.ts_der.specs.Reading.{fault_at, is_end, next_at, element_at, element_of, behind, at_element, value_at, end_at, many_from, many}
use Rattle.ts_der.proofs.Elements.{next-found}
use Rattle.ts_der.proofs.Laws.{bind_ok, ok_is, next-only}
use Rattle.ts_der.proofs.Many.{Consumes, is_end-length, many-end, many-step}
use Rattle.ts_der.proofs.Sets.{next-consumes}
use Rattle.ts_der.proofs.OctetLists.{AreOctets-part, AreOctets-back}
use Rattle.ts_shape.specs.Fields.{within, Within}
use Rattle.ts_shape.specs.Items.{some_rules, each, alone, tagged_as, of_tag, IsChoice, some_of, AreItems, AreSome, first_then, upto_from, items_at}
use Rattle.ts_shape.specs.declared.fault.CertFault.{CertFault}
use Rattle.ts_shape.specs.Fault.{der, breaks}
use Rattle.ts_shape.specs.Shape.{Row, Shape, ContentRules, tagged, no_other, items, nothing, ◌then◌, ◌or_else◌, is_absent, header_fault, row_fault, judge, der_rules}
use Rattle.ts_shape.proofs.Endings.{end-ok, end-again}
use Rattle.ts_shape.proofs.Parts.{Value, Part, within-part}
use Rattle.ts_shape.proofs.Judging.{Judged, bind-der, no_more, no_less, Headed, Reads, under, then-judged, ends, within-reads, items-judged, value-judged, next-reads}

pub each-consumes : {A : Type 0} (value : Tlv → Result A Fault) → Consumes (each value)
unfolding each
each-consumes {A} value here x after read =
    let e = bind_ok (next_at here) (λ e. value e.0 >>= λ y. Ok (y, e.1)) (x, after) read in
    let v = bind_ok (value e.0.0) (λ y. Ok (y, e.0.1)) (x, after) e.2 in
    let same : (v.0, e.0.1) ≡ (x, after) = ok_is {A = A × Place} {E = Fault} (v.0, e.0.1) (x, after) v.2 in
    subst (λ (p : Place). length p.rest < length here.rest) (ap (λ (p : A × Place). p.1) same) (next-consumes here e.0.0 e.0.1 e.1)

-- an element of one tag, each way
pub each-tag : {A : Type 0} (tag : ℕ) (value : Tlv → Result A Fault) (here : Place) → each (of_tag tag value) here ≡ within tag value here
unfolding each of_tag tagged_as within element_at
each-tag {A} tag value here = by_next (next_at here)
  where
    beside : Place → A → Result (A × Place) Fault
    beside p y = Ok (y, p)

    by_tag : (x : Tlv × Place) (b : Bool) → ((cond {A = Result Tlv Fault} b (Ok x.0) (Err (fault_at x.0.at WrongTag)) >>= value) >>= beside x.1)
        ≡ (cond {A = Result (Tlv × Place) Fault} b (Ok x) (Err (fault_at x.0.at WrongTag)) >>= λ e. value e.0 >>= beside e.1)
    by_tag x true = refl
    by_tag x false = refl

    by_next : (r : Result (Tlv × Place) Fault) → (r >>= λ x. (cond {A = Result Tlv Fault} (eqb x.0.tag tag) (Ok x.0) (Err (fault_at x.0.at WrongTag)) >>= value) >>= beside x.1)
        ≡ ((r >>= λ x. cond {A = Result (Tlv × Place) Fault} (eqb x.0.tag tag) (Ok x) (Err (fault_at x.0.at WrongTag))) >>= λ e. value e.0 >>= beside e.1)
    by_next (Ok x) = by_tag x (eqb x.0.tag tag)
    by_next (Err f) = refl

-- an item of one tag: what is read is encoded so, and what is encoded so is read
pub tag-part : {A : Type 0} (tag : ℕ) (value : Tlv → Result A Fault) (Encodes : List ℕ → A → Type 0) → Value tag value Encodes → Part (each (of_tag tag value)) (Within tag Encodes)
tag-part {A} tag value Encodes v =
    let p = within-part tag value Encodes v in
    record {
      found = λ here x after fits read. p.found here x after fits (sym (each-tag tag value here) ∙ read);
      again = λ here x w rest is e. each-tag tag value here ∙ p.again here x w rest is e;
    }

-- and the first rule that it breaks
pub tag-reads : {A : Type 0} (tag : ℕ) (shape : Shape) (rules : ContentRules) (value : Tlv → Result A Fault) (P : Tlv → A → Type 0)
    → ((e : Tlv) → Judged (der (value e)) (judge shape (inside e) or_else option_map (breaks e.at) (rules e.content)) (P e))
    → Reads (tagged tag shape rules no_other) (λ here. der (each (of_tag tag value) here)) P
tag-reads {A} tag shape rules value P j here =
    subst (λ (r : Result (A × Place) Fault). Judged (der r)
    (header_fault here or_else row_fault (tagged tag shape rules no_other) (element_of here))
    (λ x. Headed here × (x.1 ≡ behind here) × P (element_of here) x.0))
    (sym (each-tag tag value here)) (within-reads tag shape rules value P j here)

-- ---- one of several forms, by the tag

-- an element of this tag, or what is read of others
pub choice-found : {A : Type 0} (tag : ℕ) (e : Tlv) (value other : Result A Fault) (P : A → Type 0)
    → (e.tag ≡ tag → (x : A) → value ≡ Ok x → P x) → ((x : A) → other ≡ Ok x → P x) → (x : A) → cond (eqb e.tag tag) value other ≡ Ok x → P x
choice-found {A} tag e value other P f g x read = by_tag (eqb e.tag tag) refl read
  where
    by_tag : (b : Bool) → eqb e.tag tag ≡ b → cond b value other ≡ Ok x → P x
    by_tag true t read = f (eqb-true e.tag tag t) x read
    by_tag false t read = g x read

-- an element of any form: what is read is encoded so, and what is encoded so is read
pub form-part : {A : Type 0} (value : Tlv → Result A Fault) (Is : ℕ → List ℕ → A → Type 0)
    → ((e : Tlv) (x : A) → AreOctets e.content → value e ≡ Ok x → Is e.tag e.content x) → ((e : Tlv) (x : A) → Is e.tag e.content x → value e ≡ Ok x) → Part (each value) (IsChoice Is)
unfolding each
form-part {A} value Is found again = record { found = part-found; again = part-again }
  where
    beside : Place → A → Result (A × Place) Fault
    beside p x = Ok (x, p)

    encoded : (here : Place) (e : Tlv) (x : A) (after : Place) → AreOctets here.rest → next_at here ≡ Ok (e, after) → value e ≡ Ok x → (w : List ℕ) × IsChoice Is w x × (here.rest ≡ w ++ after.rest)
    encoded here e x after fits n v =
        let s = next-found here e after fits n in
        let inner : AreOctets e.content = AreOctets-part e.tag e.content after.rest (subst AreOctets (s.whole ∙ ap (λ (w : List ℕ). w ++ after.rest) s.encoded) fits) in
        (e.whole, record { tag = e.tag; content = e.content; fits = s.fits; encoded = s.encoded; form = found e x inner v }, s.whole)

    part-found : (here : Place) (x : A) (after : Place) → AreOctets here.rest → each value here ≡ Ok (x, after) → (w : List ℕ) × IsChoice Is w x × (here.rest ≡ w ++ after.rest)
    part-found here x after fits read =
        let b = bind_ok (next_at here) (λ e. value e.0 >>= beside e.1) (x, after) read in
        let v = bind_ok (value b.0.0) (beside b.0.1) (x, after) b.2 in
        subst (λ (p : A × Place). (w : List ℕ) × IsChoice Is w p.0 × (here.rest ≡ w ++ p.1.rest)) (ok_is {A = A × Place} {E = Fault} (v.0, b.0.1) (x, after) v.2)
        (encoded here b.0.0 v.0 b.0.1 fits b.1 v.1)

    part-again : (here : Place) (x : A) (w rest : List ℕ) → IsChoice Is w x → here.rest ≡ w ++ rest → each value here ≡ Ok (x, record { rest = rest; at = here.at + length w })
    part-again here x w rest is e =
        let one = next-only here is.tag is.content rest is.fits (e ∙ ap (λ (o : List ℕ). o ++ rest) is.encoded) in
        let read = again (encoded_at here.at is.tag is.content) x is.form in
        rw (one, read) (ap (λ (o : List ℕ). Ok (x, record { rest = rest; at = here.at + length o })) (sym is.encoded))

-- ---- walks

first-more : {A : Type 0} (r : Result (A × Place) Fault) (f g : Place → List A) → ((x : A) (after : Place) → r ≡ Ok (x, after) → f after ≡ g after) → first_then r f ≡ first_then r g
first-more {A} (Ok x) f g h = ap (λ (xs : List A). x.0 ∷ xs) (h x.0 x.1 refl)
first-more (Err e) f g h = refl

-- more than enough is enough
enough : {A : Type 0} (value : Tlv → Result A Fault) (m n : ℕ) (here : Place) → length here.rest ≤ m → length here.rest ≤ n → upto_from m value here ≡ upto_from n value here
enough value zero zero here le ge = refl
enough {A} value zero (suc n) here le ge = by_rest here.rest (omega arith)
  where
    by_rest : (rest : List ℕ) → length rest ≤ 0 → [] ≡ cond (is_end rest) [] (first_then (each value here) (upto_from n value))
    by_rest [] h = refl
    by_rest (o ∷ rest) h = absurd (omega arith)
enough {A} value (suc m) zero here le ge = by_rest here.rest (omega arith)
  where
    by_rest : (rest : List ℕ) → length rest ≤ 0 → cond (is_end rest) [] (first_then (each value here) (upto_from m value)) ≡ []
    by_rest [] h = refl
    by_rest (o ∷ rest) h = absurd (omega arith)
enough {A} value (suc m) (suc n) here le ge =
    ap (λ (xs : List A). cond (is_end here.rest) [] xs) (first-more (each value here) (upto_from m value) (upto_from n value)
    (λ x after e. enough value m n after (let lt = each-consumes value here x after e in omega arith) (let lt = each-consumes value here x after e in omega arith)))

not_end : (rest : List ℕ) → is_end rest ≡ false → (n : ℕ) × (length rest ≡ suc n)
not_end [] e = absurd cc
not_end (o ∷ rest) e = (length rest, refl)

-- nothing is left
pub walk-end : {A : Type 0} (value : Tlv → Result A Fault) (here : Place) → is_end here.rest ≡ true → items_at value here ≡ []
unfolding items_at
walk-end value here e = rw (is_end-length here.rest e) refl

-- an item, and then the others
pub walk-step : {A : Type 0} (value : Tlv → Result A Fault) (here : Place) (x : A) (after : Place) → is_end here.rest ≡ false → each value here ≡ Ok (x, after)
    → items_at value here ≡ x ∷ items_at value after
unfolding items_at
walk-step {A} value here x after e r =
    let n = not_end here.rest e in
    let lt = each-consumes value here x after r in
    rw (n.1, e, r) (ap (λ (xs : List A). x ∷ xs) (enough value n.0 (length after.rest) after (omega (arith, n.1)) (omega arith)))

-- an item that can't be read
pub walk-stop : {A : Type 0} (value : Tlv → Result A Fault) (here : Place) (f : Fault) → each value here ≡ Err f → items_at value here ≡ []
unfolding items_at
walk-stop {A} value here f r = by_size (length here.rest)
  where
    by_size : (n : ℕ) → upto_from n value here ≡ []
    by_size zero = refl
    by_size (suc n) = rw r (by_end (is_end here.rest))
      where
        by_end : (b : Bool) → cond {A = List A} b [] [] ≡ []
        by_end true = refl
        by_end false = refl

-- where reading all of them was not refused, these are all
walked : {A : Type 0} (value : Tlv → Result A Fault) (n : ℕ) (here : Place) (xs : List A) → many_from n (each value) here ≡ Ok xs → upto_from n value here ≡ xs
walked value zero here xs e = ok_is {E = Fault} [] xs e
walked {A} value (suc n) here xs e = by_end (λ x ys after more. walked value n after ys more) (is_end here.rest) e
  where
    by_end : ((x : A) (ys : List A) (after : Place) → many_from n (each value) after ≡ Ok ys → upto_from n value after ≡ ys)
        → (b : Bool) → cond b (Ok []) (each value here >>= λ x. many_from n (each value) x.1 >>= λ ys. Ok (x.0 ∷ ys)) ≡ Ok xs
        → cond b [] (first_then (each value here) (upto_from n value)) ≡ xs
    by_end f true e = ok_is {E = Fault} [] xs e
    by_end f false e =
        let a = bind_ok (each value here) (λ x. many_from n (each value) x.1 >>= λ ys. Ok (x.0 ∷ ys)) xs e in
        let b = bind_ok (many_from n (each value) a.0.1) (λ ys. Ok (a.0.0 ∷ ys)) xs a.2 in
        rw a.1 (ap (λ (ys : List A). a.0.0 ∷ ys) (f a.0.0 b.0 a.0.1 b.1) ∙ ok_is {A = List A} {E = Fault} (a.0.0 ∷ b.0) xs b.2)

pub walk-all : {A : Type 0} (value : Tlv → Result A Fault) (here : Place) (xs : List A) → many (each value) here ≡ Ok xs → items_at value here ≡ xs
unfolding items_at many
walk-all value here xs e = walked value (length here.rest) here xs e

-- ---- what is read is encoded so, and what is encoded so is read

items_from : {A : Type 0} (value : Tlv → Result A Fault) (Encodes : List ℕ → A → Type 0) → Part (each value) Encodes
    → (n : ℕ) (here : Place) (xs : List A) → length here.rest ≤ n → AreOctets here.rest → many_from n (each value) here ≡ Ok xs → AreItems Encodes here.rest xs
items_from {A} value Encodes part zero here xs le fits e = none here.rest xs (omega arith) (ok_is {E = Fault} [] xs e)
  where
    none : (rest : List ℕ) (xs : List A) → length rest ≤ 0 → [] ≡ xs → AreItems Encodes rest xs
    none [] xs h e = subst (λ (ys : List A). AreItems Encodes [] ys) e refl
    none (o ∷ rest) xs h e = absurd (omega arith)
items_from {A} value Encodes part (suc n) here xs le fits e =
    by_end (λ x after ys r le fits more. items_from value Encodes part n after ys le fits more) (is_end here.rest) refl e
  where
    none : (rest : List ℕ) → is_end rest ≡ true → rest ≡ []
    none [] e = refl
    none (o ∷ rest) e = absurd cc

    by_end : ((x : A) (after : Place) (ys : List A) → each value here ≡ Ok (x, after)
        → length after.rest ≤ n → AreOctets after.rest → many_from n (each value) after ≡ Ok ys
        → AreItems Encodes after.rest ys)
        → (b : Bool) → is_end here.rest ≡ b → cond b (Ok []) (each value here >>= λ x. many_from n (each value) x.1 >>= λ ys. Ok (x.0 ∷ ys)) ≡ Ok xs → AreItems Encodes here.rest xs
    by_end f true t e = subst (λ (ys : List A). AreItems Encodes here.rest ys) (ok_is {E = Fault} [] xs e) (none here.rest t)
    by_end f false t e =
        let a = bind_ok (each value here) (λ x. many_from n (each value) x.1 >>= λ ys. Ok (x.0 ∷ ys)) xs e in
        let b = bind_ok (many_from n (each value) a.0.1) (λ ys. Ok (a.0.0 ∷ ys)) xs a.2 in
        let w = part.found here a.0.0 a.0.1 fits a.1 in
        let lt = each-consumes value here a.0.0 a.0.1 a.1 in
        let more = f a.0.0 a.0.1 b.0 a.1 (omega arith) (AreOctets-back w.0 a.0.1.rest (subst AreOctets w.2 fits)) b.1 in
        subst (λ (zs : List A). AreItems Encodes here.rest zs) (ok_is {A = List A} {E = Fault} (a.0.0 ∷ b.0) xs b.2) (w.0, a.0.1.rest, w.1, w.2, more)

-- items up to the end: what is read is encoded so
pub many-found : {A : Type 0} (value : Tlv → Result A Fault) (Encodes : List ℕ → A → Type 0) → Part (each value) Encodes
    → (here : Place) (xs : List A) → AreOctets here.rest → many (each value) here ≡ Ok xs → AreItems Encodes here.rest xs
unfolding many
many-found value Encodes part here xs fits e = items_from value Encodes part (length here.rest) here xs (omega arith) fits e

-- and what is encoded so is read
pub many-again : {A : Type 0} (value : Tlv → Result A Fault) (Encodes : List ℕ → A → Type 0) → Part (each value) Encodes
    → (here : Place) (xs : List A) → AreItems Encodes here.rest xs → many (each value) here ≡ Ok xs
many-again value Encodes part here [] m = many-end (each value) here (ap is_end m)
many-again {A} value Encodes part here (x ∷ xs) m =
    let after : Place = record { rest = m.1; at = here.at + length m.0 } in
    let item : each value here ≡ Ok (x, after) = part.again here x m.0 m.1 m.2 m.3 in
    let rest = many-again value Encodes part after xs m.4 in
    let more : is_end here.rest ≡ false = not_empty here.rest (each-consumes value here x after item) in
    many-step (each value) (each-consumes value) here more ∙ rw (item, rest) refl
  where
    not_empty : {n : ℕ} (rest : List ℕ) → n < length rest → is_end rest ≡ false
    not_empty [] h = absurd (omega arith)
    not_empty (o ∷ rest) h = refl

-- one item or more: what is read is encoded so
pub some-found : {A : Type 0} (value : Tlv → Result A Fault) (Encodes : List ℕ → A → Type 0) → Part (each value) Encodes
    → (e : Tlv) (xs : List A) → AreOctets e.content → some_of value e ≡ Ok xs → AreSome Encodes e.content xs
unfolding some_of
some-found {A} value Encodes part e xs fits read =
    let m = bind_ok (many (each value) (inside e)) _ xs read in
    let s = bind_ok (value_at some_rules (λ c. c) e) _ xs m.2 in
    let same : m.0 ≡ xs = ok_is {A = List A} {E = Fault} m.0 xs s.2 in
    let are = many-found value Encodes part (inside e) m.0 fits m.1 in
    subst (λ (ys : List A). AreSome Encodes e.content ys) same (not_none m.0 are (filled e.content s.0 s.1), are)
  where
    filled : (c s : List ℕ) → at_element e.at (value_unless (cond (is_end c) (Some Empty) None) c) ≡ Ok s → is_end c ≡ false
    filled [] s e = absurd cc
    filled (o ∷ c) s e = refl

    not_none : (ys : List A) → AreItems Encodes e.content ys → is_end e.content ≡ false → ys ≢ []
    not_none [] are more = absurd (let end : is_end e.content ≡ true = ap is_end are in cc)
    not_none (y ∷ ys) are more = λ none. cc

-- and what is encoded so is read
pub some-again : {A : Type 0} (value : Tlv → Result A Fault) (Encodes : List ℕ → A → Type 0) → Part (each value) Encodes
    → (e : Tlv) (xs : List A) → AreSome Encodes e.content xs → some_of value e ≡ Ok xs
unfolding some_of
some-again value Encodes part e [] are = absurd (are.0 refl)
some-again {A} value Encodes part e (x ∷ xs) are =
    let all = many-again value Encodes part (inside e) (x ∷ xs) are.1 in
    let after : Place = record { rest = are.1.1; at = e.start + length are.1.0 } in
    let item : each value (inside e) ≡ Ok (x, after) = part.again (inside e) x are.1.0 are.1.1 are.1.2 are.1.3 in
    let some = filled e.content (each-consumes value (inside e) x after item) in
    rw (all, some) refl
  where
    filled : {n : ℕ} (c : List ℕ) → n < length c → is_end c ≡ false
    filled [] h = absurd (omega arith)
    filled (o ∷ c) h = refl

-- ---- a loop over items that has come to the end

empty-is : (c : List ℕ) (b : Bool) → eqb (length c) 0 ≡ b → is_end c ≡ b
empty-is [] true e = refl
empty-is [] false e = absurd (eqb-false 0 0 e refl)
empty-is (o ∷ c) true e = absurd (let none = eqb-true (length (o ∷ c)) 0 e in omega arith)
empty-is (o ∷ c) false e = refl

-- there was one
pub some-is : {A : Type 0} (value : Tlv → Result A Fault) (e : Tlv) (xs : List A) → many (each value) (inside e) ≡ Ok xs → eqb (length e.content) 0 ≡ false → some_of value e ≡ Ok xs
unfolding some_of
some-is value e xs all some = rw (all, empty-is e.content false some) refl

-- there was none
pub none-is : {A : Type 0} (value : Tlv → Result A Fault) (e : Tlv) (xs : List A) → many (each value) (inside e) ≡ Ok xs → eqb (length e.content) 0 ≡ true → some_of value e ≡ Err (fault_at e.at Empty)
unfolding some_of
none-is value e xs all none = rw (all, empty-is e.content true none) refl

-- items that were not refused are those of a walk
pub some-walked : {A : Type 0} (value : Tlv → Result A Fault) (e : Tlv) → None ≡ refusal (some_of value e) → some_of value e ≡ Ok (items_at value (inside e))
unfolding some_of
some-walked {A} value e ok = by_items (many (each value) (inside e)) refl ok
  where
    by_items : (r : Result (List A) Fault) → many (each value) (inside e) ≡ r
        → None ≡ refusal (r >>= λ xs. value_at some_rules (λ c. c) e >>= λ some. Ok xs) → (r >>= λ xs. value_at some_rules (λ c. c) e >>= λ some. Ok xs) ≡ Ok (items_at value (inside e))
    by_items (Ok xs) all ok = by_some (value_at some_rules (λ c. c) e) ok
      where
        by_some : (s : Result (List ℕ) Fault) → None ≡ refusal (s >>= λ some. Ok xs) → (s >>= λ some. Ok xs) ≡ Ok (items_at value (inside e))
        by_some (Ok c) ok = ap (λ (ys : List A). Ok ys) (sym (walk-all value (inside e) xs all))
        by_some (Err f) ok = absurd cc
    by_items (Err f) all ok = absurd cc

-- ---- the first rule that is broken

-- a row of one tag, or what the next row says
pub choice-judged : {A : Type 0} (tag : ℕ) (shape : Shape) (rules : ContentRules) (e : Tlv) (value rest : Result A Fault) (other : Option CertFault)
    → Judged (der value) (judge shape (inside e) or_else option_map (breaks e.at) (rules e.content)) (λ x. Unit {0}) → Judged (der rest) other (λ x. Unit {0})
    → Judged (der (cond (eqb e.tag tag) value rest)) (cond (eqb e.tag tag) (judge shape (inside e) or_else option_map (breaks e.at) (rules e.content)) other) (λ x. Unit {0})
choice-judged {A} tag shape rules e value rest other j k = by_tag (eqb e.tag tag)
  where
    by_tag : (b : Bool) → Judged (der (cond b value rest)) (cond b (judge shape (inside e) or_else option_map (breaks e.at) (rules e.content)) other) (λ x. Unit {0})
    by_tag true = j
    by_tag false = k

-- items of a row, and then that there is one
pub some-judged : {A : Type 0} (row : Row) (value : Tlv → Result A Fault) (P : Tlv → A → Type 0) → Reads row (λ here. der (each value here)) P
    → (e : Tlv) → Judged (der (some_of value e)) (judge (items row) (inside e) or_else option_map (breaks e.at) (der_rules some_rules e.content)) (λ xs. Unit {0})
unfolding some_of many
some-judged {A} row value P j e =
    bind-der (many_from (length e.content) (each value) (inside e)) _ _ _ _ _ (items-judged row (each value) P j (length e.content) (inside e)) (λ xs es.
    no_less _ _ _
    (bind-der (value_at some_rules (λ c. c) e) (λ some. Ok xs) _ None _ _ (value-judged some_rules (λ c. c) e) (λ c p. (refl, tt))))

-- an element that a value is read of
pub each-reads : {A : Type 0} (row : Row) (value : Tlv → Result A Fault) (P : Tlv → A → Type 0)
    → ((e : Tlv) → Judged (der (value e)) (row_fault row e) (P e))
    → Reads row (λ here. der (each value here)) P
unfolding each
each-reads row value P j = next-reads row value P j

-- ---- one element within another

-- what is read is encoded so
pub alone-found : {A : Type 0} (value : Tlv → Result A Fault) (Encodes : List ℕ → A → Type 0)
    → Part (each value) Encodes → (e : Tlv) (x : A) → AreOctets e.content → alone value e ≡ Ok x
    → Encodes e.content x
unfolding alone
alone-found {A} value Encodes part e x fits read =
    let a = bind_ok (each value (inside e)) _ x read in
    let d = bind_ok (end_at a.0.1) _ x a.2 in
    let f = part.found (inside e) a.0.0 a.0.1 fits a.1 in
    let whole : e.content ≡ f.0 = f.2 ∙ (ap (λ (rest : List ℕ). f.0 ++ rest) (end-ok a.0.1 d.0 d.1) ∙ append-nil f.0) in
    subst (λ (o : List ℕ). Encodes o x) (sym whole) (subst (λ (y : A). Encodes f.0 y) (ok_is {E = Fault} a.0.0 x d.2) f.1)

-- and what is encoded so is read
pub alone-again : {A : Type 0} (value : Tlv → Result A Fault) (Encodes : List ℕ → A → Type 0) → Part (each value) Encodes → (e : Tlv) (x : A) → Encodes e.content x → alone value e ≡ Ok x
unfolding alone
alone-again value Encodes part e x is =
    let a = part.again (inside e) x e.content [] is (sym (append-nil e.content)) in
    let d = end-again (e.start + length e.content) in
    rw (a, d) refl

-- the first rule that is broken: of the element within, and then that nothing is behind it
pub alone-judged : {A : Type 0} (row : Row) (value : Tlv → Result A Fault) (P : Tlv → A → Type 0) → ((octets : List ℕ) → is_absent row octets ≡ false) → Reads row (λ here. der (each value here)) P
    → (e : Tlv) → Judged (der (alone value e)) (judge (row then nothing) (inside e) or_else None) (λ x. Unit {0})
unfolding alone
alone-judged row value P stands j e =
    no_more _ _ _
    (under (each value (inside e)) _ _ _
    (then-judged row nothing (inside e) (λ here. der (each value here)) _ P _ (stands e.content) j (λ x p. ends _ _ _ (λ h. tt))))
