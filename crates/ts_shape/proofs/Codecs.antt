-- Lists of items, each within an element: what is read is encoded so, and what is encoded so is read.
use Rattle.std.proofs.Common.{◌≡◌, ℕ, zero, suc, ◌+◌, ◌≤◌, Bool, true, false, cond, List, [], ◌∷◌, ◌++◌, length, Result, Ok, refl, ap, subst, ◌∙◌, arith}
use Rattle.std.specs.List.{flat_map, AllByRecursion}
use Rattle.ts_der.specs.declared.fault.Fault.{Fault}
use Rattle.ts_der.specs.Octets.{AreOctets}
use Rattle.ts_der.specs.Answer.{◌>>=◌}
use Rattle.ts_der.specs.Element.{Place, Tlv, Fits, encode, encoded_at}
use Rattle.ts_der.specs.Reading.{is_end, element_at, many_from, many}
use Rattle.ts_der.proofs.OctetLists.{AreOctets-back, AreOctets-part}
use Rattle.ts_der.proofs.Laws.{bind_ok, ok_is, element-found, element-only}
use Rattle.ts_der.proofs.Many.{is_end-length, many-end, many-step}
use Rattle.ts_shape.specs.Fields.{within}
use Rattle.ts_shape.proofs.Walks.{within-consumes}

-- how a value is read from an element's content and encoded there
pub record Codec {A : Type 0} (tag : ℕ) (value : Tlv → Result A Fault) (content_of : A → List ℕ) (Good : A → Type 0) : Type 0 where
  pub found : (e : Tlv) (x : A) → AreOctets e.content → value e ≡ Ok x → (e.content ≡ content_of x) × Good x
  pub again : (e : Tlv) (x : A) → Good x → e.content ≡ content_of x → value e ≡ Ok x

-- a value that has an encoding as an element of this tag
abbrev pub Whole : {A : Type 0} → ℕ → (A → List ℕ) → (A → Type 0) → A → Type 0
Whole tag content_of Good x = Good x × Fits tag (content_of x)

abbrev pub whole_of : {A : Type 0} → ℕ → (A → List ℕ) → A → List ℕ
whole_of tag content_of x = encode tag (content_of x)

pub within-found : {A : Type 0} (tag : ℕ) (value : Tlv → Result A Fault) (content_of : A → List ℕ) (Good : A → Type 0) → Codec tag value content_of Good
    → (here : Place) (x : A) (after : Place) → AreOctets here.rest → within tag value here ≡ Ok (x, after)
    → Whole tag content_of Good x × (here.rest ≡ whole_of tag content_of x ++ after.rest) × AreOctets after.rest
unfolding within
within-found {A} tag value content_of Good codec here x after fits read =
    let b = bind_ok (element_at tag here) (λ e. value e.0 >>= λ y. Ok (y, e.1)) (x, after) read in
    let v = bind_ok (value b.0.0) (λ y. Ok (y, b.0.1)) (x, after) b.2 in
    let same : (v.0, b.0.1) ≡ (x, after) = ok_is {A = A × Place} {E = Fault} (v.0, b.0.1) (x, after) v.2 in
    let s = element-found tag here b.0.0 b.0.1 fits b.1 in
    let stands = s.0 in
    let whole : here.rest ≡ encode b.0.0.tag b.0.0.content ++ b.0.1.rest = stands.whole ∙ ap (λ (w : List ℕ). w ++ b.0.1.rest) stands.encoded in
    let inner : AreOctets b.0.0.content = AreOctets-part b.0.0.tag b.0.0.content b.0.1.rest (subst AreOctets whole fits) in
    let f = codec.found b.0.0 v.0 inner v.1 in
    let encoded : here.rest ≡ whole_of tag content_of v.0 ++ b.0.1.rest = whole ∙ (ap (λ (t : ℕ). encode t b.0.0.content ++ b.0.1.rest) s.1 ∙ ap (λ (c : List ℕ). encode tag c ++ b.0.1.rest) f.0) in
    let good : Fits tag (content_of v.0) = subst (λ (c : List ℕ). Fits tag c) f.0 (subst (λ (t : ℕ). Fits t b.0.0.content) s.1 stands.fits) in
    subst (λ (p : A × Place). Whole tag content_of Good p.0 × (here.rest ≡ whole_of tag content_of p.0 ++ p.1.rest) × AreOctets p.1.rest) same
    ((f.1, good), encoded, AreOctets-back (whole_of tag content_of v.0) b.0.1.rest (subst AreOctets encoded fits))

-- what items one after another are
pub record AreItems {A : Type 0} (tag : ℕ) (content_of : A → List ℕ) (Good : A → Type 0) (octets : List ℕ) (xs : List A) : Type 0 where
  pub each : AllByRecursion (Whole tag content_of Good) xs
  pub whole : octets ≡ flat_map (whole_of tag content_of) xs

no_items : {A : Type 0} (tag : ℕ) (content_of : A → List ℕ) (Good : A → Type 0) (octets : List ℕ) (xs : List A) → length octets ≤ 0 → [] ≡ xs → AreItems tag content_of Good octets xs
no_items {A} tag content_of Good [] xs le e = subst (λ (ys : List A). AreItems tag content_of Good [] ys) e (record { each = tt; whole = refl })
no_items tag content_of Good (o ∷ octets) xs le e = absurd (omega arith)

items_from : {A : Type 0} (tag : ℕ) (value : Tlv → Result A Fault) (content_of : A → List ℕ) (Good : A → Type 0) → Codec tag value content_of Good
    → (n : ℕ) (here : Place) (xs : List A) → length here.rest ≤ n → AreOctets here.rest → many_from n (within tag value) here ≡ Ok xs → AreItems tag content_of Good here.rest xs
items_from tag value content_of Good codec zero here xs le fits e = no_items tag content_of Good here.rest xs (omega arith) (ok_is {E = Fault} [] xs e)
items_from {A} tag value content_of Good codec (suc n) here xs le fits e =
    by_end (λ x after ys r more. one x after ys r
    (items_from tag value content_of Good codec n after ys
    (let lt = within-consumes tag value here x after r in omega arith)
    (within-found tag value content_of Good codec here x after fits r).2 more))
    (is_end here.rest) refl e
  where
    one : (x : A) (after : Place) (ys : List A) → within tag value here ≡ Ok (x, after) → AreItems tag content_of Good after.rest ys → AreItems tag content_of Good here.rest (x ∷ ys)
    one x after ys r m =
        let f = within-found tag value content_of Good codec here x after fits r in
        record { each = (f.0, m.each); whole = f.1 ∙ ap (λ (rest : List ℕ). whole_of tag content_of x ++ rest) m.whole }

    by_end : ((x : A) (after : Place) (ys : List A) → within tag value here ≡ Ok (x, after) → many_from n (within tag value) after ≡ Ok ys → AreItems tag content_of Good here.rest (x ∷ ys))
        → (b : Bool) → is_end here.rest ≡ b
        → cond b (Ok []) (within tag value here >>= λ x. many_from n (within tag value) x.1 >>=
        λ ys. Ok (x.0 ∷ ys)) ≡ Ok xs → AreItems tag content_of Good here.rest xs
    by_end f true t e = no_items tag content_of Good here.rest xs (omega (arith, is_end-length here.rest t)) (ok_is {E = Fault} [] xs e)
    by_end f false t e =
        let a = bind_ok (within tag value here) (λ x. many_from n (within tag value) x.1 >>= λ ys. Ok (x.0 ∷ ys)) xs e in
        let b = bind_ok (many_from n (within tag value) a.0.1) (λ ys. Ok (a.0.0 ∷ ys)) xs a.2 in
        subst (λ (zs : List A). AreItems tag content_of Good here.rest zs) (ok_is {E = Fault} (a.0.0 ∷ b.0) xs b.2) (f a.0.0 a.0.1 b.0 a.1 b.1)

-- what is read is encoded so
pub many-found : {A : Type 0} (tag : ℕ) (value : Tlv → Result A Fault) (content_of : A → List ℕ) (Good : A → Type 0) → Codec tag value content_of Good
    → (here : Place) (xs : List A) → AreOctets here.rest → many (within tag value) here ≡ Ok xs → AreItems tag content_of Good here.rest xs
unfolding many
many-found tag value content_of Good codec here xs fits e = items_from tag value content_of Good codec (length here.rest) here xs (omega arith) fits e

-- what is encoded so is read
pub many-again : {A : Type 0} (tag : ℕ) (value : Tlv → Result A Fault) (content_of : A → List ℕ) (Good : A → Type 0) → Codec tag value content_of Good
    → (here : Place) (xs : List A) → AreItems tag content_of Good here.rest xs → many (within tag value) here ≡ Ok xs
unfolding within
many-again tag value content_of Good codec here [] m = many-end (within tag value) here (ap is_end m.whole)
many-again tag value content_of Good codec here (x ∷ xs) m =
    let whole : here.rest ≡ encode tag (content_of x) ++ flat_map (whole_of tag content_of) xs = m.whole in
    let one = element-only here tag (content_of x) (flat_map (whole_of tag content_of) xs) m.each.0.1 whole in
    let v : value (encoded_at here.at tag (content_of x)) ≡ Ok x = codec.again (encoded_at here.at tag (content_of x)) x m.each.0.0 refl in
    let after : Place = record { rest = flat_map (whole_of tag content_of) xs; at = here.at + length (encode tag (content_of x)) } in
    let item : within tag value here ≡ Ok (x, after) = rw (one, v) refl in
    let rest = many-again tag value content_of Good codec after xs (record { each = m.each.1; whole = refl }) in
    many-step (within tag value) (within-consumes tag value) here (ap is_end m.whole) ∙ rw (item, rest) refl
