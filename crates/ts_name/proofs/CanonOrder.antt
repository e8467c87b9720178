-- The order of two attributes in canonical form, as it is found step by step, and lists in that order.
use Rattle.std.proofs.Common.{◌≡◌, ℕ, suc, ◌+◌, ◌<◌, ◌≤◌, Bool, true, false, not, cond, eqb, List, [], ◌∷◌, ◌++◌, length, drop, get_or, refl, sym, ap, subst, ◌∙◌, ◌↔◌, arith, add-one, Ordering}
use Rattle.std.specs.Prelude.{map, count_by, IsPermutation, All}
use Rattle.std.specs.Cmp.Lexicographic.{slice_cmp}
use Rattle.std.specs.Ordering.{nat_cmp, ordering_then, ordering_index, ordering_reverse, is_lt, is_le}
use Rattle.std.specs.declared.cmp.Ordering.TheVariants.{Less, Equal, Greater}
use Rattle.std.specs.List.Sorted.{IsSorted}
use Rattle.std.proofs.lemmas.Bool.{false≢true, true≢false}
use Rattle.std.proofs.Math.Seq.{drop-cons}
use Rattle.std.proofs.lemmas.List.{length-map, drop_all}
use Rattle.std.proofs.lemmas.List.Sorted.{length_permutation, IsPermutation-map, sum_by-IsPermutation}
use Rattle.std.proofs.lemmas.List.Elements.{All-nil, All-cons}
use Rattle.ts_name.specs.declared.attribute.Attribute.{Attribute}
use Rattle.ts_name.specs.Canon.{Attr, CanonAttr, is_text, canonical_text, canon_attr, canon_rdn, compare_attrs, attr_at_most, insert_attr, sort_attrs, is_same, count_of}
use Rattle.ts_name.specs.inside.Sorted.{canon_of, AreSorted}
use Rattle.ts_name.specs.View.{attr_of}
use Rattle.ts_name.proofs.Order.{total, counts_same}

-- ---- two values of one tag

-- an attribute in canonical form, whether it is text
abbrev canon_by : Bool → Attr → CanonAttr
canon_by t a = cond {A = CanonAttr} t (record { kind = a.kind; tag = 0x0C; value = canonical_text a.value }) (record { kind = a.kind; tag = a.tag; value = a.value })

pub text-values : (a b : Attr) → true ≡ is_text a.tag → (canon_attr a).tag ≡ (canon_attr b).tag
    → slice_cmp nat_cmp (canonical_text a.value) (canonical_text b.value) ≡ slice_cmp nat_cmp (canon_attr a).value (canon_attr b).value
unfolding canon_attr
text-values a b text tags = by_tags (is_text a.tag) (sym text) (is_text b.tag) refl tags
  where
    by_tags : (t : Bool) → t ≡ true → (u : Bool) → is_text b.tag ≡ u → (canon_by t a).tag ≡ (canon_by u b).tag
        → slice_cmp nat_cmp (canonical_text a.value) (canonical_text b.value) ≡ slice_cmp nat_cmp (canon_by t a).value (canon_by u b).value
    by_tags false e u f g = absurd (false≢true e)
    by_tags true e true f g = refl
    by_tags true e false f g = absurd (false≢true (sym f ∙ ap is_text (sym g)))

pub other-values : (a b : Attr) → false ≡ is_text a.tag → (canon_attr a).tag ≡ (canon_attr b).tag
    → slice_cmp nat_cmp a.value b.value ≡ slice_cmp nat_cmp (canon_attr a).value (canon_attr b).value
unfolding canon_attr
other-values a b other tags = by_tags (is_text a.tag) refl (sym other) (is_text b.tag) tags
  where
    by_tags : (t : Bool) → is_text a.tag ≡ t → t ≡ false → (u : Bool) → (canon_by t a).tag ≡ (canon_by u b).tag
        → slice_cmp nat_cmp a.value b.value ≡ slice_cmp nat_cmp (canon_by t a).value (canon_by u b).value
    by_tags true h e u g = absurd (true≢false e)
    by_tags false h e true g = absurd (false≢true (sym h ∙ ap is_text g))
    by_tags false h e false g = refl

-- ---- by type, then by tag, then by value

pub kind-is : (a : Attr) → (canon_attr a).kind ≡ a.kind
unfolding canon_attr
kind-is a = by_tag (is_text a.tag)
  where
    by_tag : (t : Bool) → (canon_by t a).kind ≡ a.kind
    by_tag true = refl
    by_tag false = refl

-- a comparison that decides
abbrev Decides : Ordering → Bool
Decides o = not (eqb (ordering_index o) 1)

first-decides : (o p : Ordering) → true ≡ Decides o → o ≡ ordering_then o p
first-decides Less p e = refl
first-decides Equal p e = absurd (true≢false e)
first-decides Greater p e = refl

second-decides : (o p : Ordering) → false ≡ Decides o → p ≡ ordering_then o p
second-decides Less p e = absurd (false≢true e)
second-decides Equal p e = refl
second-decides Greater p e = absurd (false≢true e)

kinds-are : (a b : Attr) → slice_cmp nat_cmp a.kind b.kind ≡ slice_cmp nat_cmp (canon_attr a).kind (canon_attr b).kind
kinds-are a b = ap (λ (k : List ℕ). slice_cmp nat_cmp k b.kind) (sym (kind-is a)) ∙ ap (slice_cmp nat_cmp (canon_attr a).kind) (sym (kind-is b))

pub by-kind : (a b : Attr) (k : Ordering) → k ≡ slice_cmp nat_cmp a.kind b.kind → true ≡ Decides k → k ≡ compare_attrs (canon_attr a) (canon_attr b)
unfolding compare_attrs
by-kind a b k e d = first-decides k _ d
    ∙ ap (λ (o : Ordering). ordering_then o
    (ordering_then (nat_cmp (canon_attr a).tag (canon_attr b).tag)
    (slice_cmp nat_cmp (canon_attr a).value (canon_attr b).value))) (e ∙ kinds-are a b)

-- types that are equal
same-kinds : (a b : Attr) (k : Ordering) → k ≡ slice_cmp nat_cmp a.kind b.kind → false ≡ Decides k
    → ordering_then (nat_cmp (canon_attr a).tag (canon_attr b).tag) (slice_cmp nat_cmp (canon_attr a).value (canon_attr b).value) ≡ compare_attrs (canon_attr a) (canon_attr b)
unfolding compare_attrs
same-kinds a b k e d = second-decides k _ d
    ∙ ap (λ (o : Ordering). ordering_then o
    (ordering_then (nat_cmp (canon_attr a).tag (canon_attr b).tag)
    (slice_cmp nat_cmp (canon_attr a).value (canon_attr b).value))) (e ∙ kinds-are a b)

pub by-tag : (a b : Attr) (k t : Ordering) → k ≡ slice_cmp nat_cmp a.kind b.kind → false ≡ Decides k
    → t ≡ nat_cmp (canon_attr a).tag (canon_attr b).tag → true ≡ Decides t → t ≡ compare_attrs (canon_attr a) (canon_attr b)
by-tag a b k t e d f g =
    first-decides t _ g ∙ (ap (λ (o : Ordering). ordering_then o (slice_cmp nat_cmp (canon_attr a).value (canon_attr b).value)) f ∙ same-kinds a b k e d)

pub by-value : (a b : Attr) (k t : Ordering) → k ≡ slice_cmp nat_cmp a.kind b.kind → false ≡ Decides k
    → t ≡ nat_cmp (canon_attr a).tag (canon_attr b).tag → false ≡ Decides t → slice_cmp nat_cmp (canon_attr a).value (canon_attr b).value ≡ compare_attrs (canon_attr a) (canon_attr b)
by-value a b k t e d f g =
    second-decides t _ g ∙ (ap (λ (o : Ordering). ordering_then o (slice_cmp nat_cmp (canon_attr a).value (canon_attr b).value)) f ∙ same-kinds a b k e d)

-- ---- lists in order

-- each is at most the next
abbrev pub Ascends : List CanonAttr → Type 0
Ascends [] = Unit {0}
Ascends (a ∷ []) = Unit {0}
Ascends (a ∷ b ∷ rest) = (attr_at_most a b ≡ true) × Ascends (b ∷ rest)

not_less : (a b : CanonAttr) → is_lt (compare_attrs b a) ≡ false → attr_at_most a b ≡ true
not_less a b e = by_order (compare_attrs b a) refl e
  where
    by_order : (o : Ordering) → compare_attrs b a ≡ o → is_lt o ≡ false → attr_at_most a b ≡ true
    by_order Less p e = absurd (true≢false e)
    by_order Equal p e = ap is_le (total.antisymm a b ∙ ap ordering_reverse p)
    by_order Greater p e = ap is_le (total.antisymm a b ∙ ap ordering_reverse p)

-- an order of what has a canonical form, by that form
abbrev pub ByCanon : {X : Type 0} → (X → CanonAttr) → (X → X → Ordering) → Type 0
ByCanon {X} f cmp = (x y : X) → cmp x y ≡ compare_attrs (f x) (f y)

tail-sorted : {X : Type 0} (cmp : X → X → Ordering) (x : X) (xs : List X) → IsSorted cmp (x ∷ xs) → IsSorted cmp xs
tail-sorted {X} cmp x xs s k d low high =
    let next : suc k + 1 ≡ suc (k + 1) = omega arith in
    subst (λ (n : ℕ). is_lt (cmp (get_or (x ∷ xs) n d) (get_or xs k d)) ≡ false) next (s (suc k) d (omega arith) (omega arith))

pub ascends-sorted : {X : Type 0} (f : X → CanonAttr) (cmp : X → X → Ordering) → ByCanon f cmp → (xs : List X) → IsSorted cmp xs → Ascends (map f xs)
ascends-sorted f cmp by [] s = tt
ascends-sorted f cmp by (x ∷ []) s = tt
ascends-sorted f cmp by (x ∷ y ∷ rest) s =
    (not_less (f x) (f y) (ap is_lt (sym (by y x)) ∙ s 0 x (omega arith) (omega arith)), ascends-sorted f cmp by (y ∷ rest) (tail-sorted cmp x (y ∷ rest) s))

-- a list in order is its own sorted form
pub sort-ascending : (xs : List CanonAttr) → Ascends xs → sort_attrs xs ≡ xs
sort-ascending [] s = refl
sort-ascending (a ∷ []) s = refl
sort-ascending (a ∷ b ∷ rest) s = ap (insert_attr a) (sort-ascending (b ∷ rest) s.1) ∙ ap (λ (t : Bool). cond t (a ∷ b ∷ rest) (b ∷ insert_attr a rest)) s.0

all-of : {A : Type 0} (P : A → Type 0) → ((x : A) → P x) → (xs : List A) → All P xs
all-of P f [] = All-nil P
all-of P f (x ∷ xs) = All-cons P x xs (f x) (all-of P f xs)

pub same-sorted : (xs ys : List CanonAttr) → IsPermutation xs ys → sort_attrs xs ≡ sort_attrs ys
same-sorted xs ys p =
    counts_same xs ys (sym (length_permutation xs ys p)) (all-of (λ x. count_of x xs ≡ count_of x ys) (λ x. sym (sum_by-IsPermutation (λ b. cond (is_same x b) 1 0) xs ys p)) xs)

map-twice : (xs : List Attribute) → map canon_of xs ≡ map canon_attr (map attr_of xs)
map-twice [] = refl
map-twice (x ∷ xs) = ap (λ (zs : List CanonAttr). canon_of x ∷ zs) (map-twice xs)

-- what was put in order is the sorted form
pub sorted-form : {X : Type 0} (f : X → CanonAttr) (cmp : X → X → Ordering) → ByCanon f cmp → (xs ys : List X) → IsPermutation xs ys → IsSorted cmp ys → map f ys ≡ sort_attrs (map f xs)
sorted-form f cmp by xs ys p s =
    sym (sort-ascending (map f ys) (ascends-sorted f cmp by ys s)) ∙ sym (same-sorted (map f xs) (map f ys) (IsPermutation-map f xs ys p))

-- attributes that were put in order are the canonical form of their set
pub sorted-is : (xs ys : List Attribute) → IsPermutation xs ys → AreSorted ys → map canon_of ys ≡ canon_rdn (map attr_of xs)
unfolding canon_rdn
sorted-is xs ys p s = sorted-form canon_of _ (λ x y. refl) xs ys p s ∙ ap sort_attrs (map-twice xs)

-- ---- two lists compared item by item

-- lists from a place on, by the item there
from : (a : List Attribute) (i : ℕ) (d : Attribute) → i < length a → map canon_of (drop i a) ≡ canon_of (get_or a i d) ∷ map canon_of (drop (i + 1) a)
from a i d h = ap (map canon_of) (drop-cons a i d h) ∙ ap (λ (n : ℕ). canon_of (get_or a i d) ∷ map canon_of (drop n a)) (sym (add-one i))

pub items-same : (a b : List Attribute) (i : ℕ) (d e : Attribute) → i < length a
    → length a ≡ length b → map canon_of (drop i a) ≡ map canon_of (drop i b)
    → canon_of (get_or a i d) ≡ canon_of (get_or b i e)
items-same a b i d e h n same = let other : i < length b = omega arith in let x = from a i d h in let y = from b i e other in cc

pub rest-same : (a b : List Attribute) (i : ℕ) (d e : Attribute) → i < length a → length a ≡ length b → canon_of (get_or a i d) ≡ canon_of (get_or b i e)
    → (map canon_of (drop i a) ≡ map canon_of (drop i b)) ↔ (map canon_of (drop (i + 1) a) ≡ map canon_of (drop (i + 1) b))
rest-same a b i d e h n one =
    let other : i < length b = omega arith in
    let x = from a i d h in
    let y = from b i e other in
    (λ s. cc, λ s. x ∙ (ap (λ (z : CanonAttr). z ∷ map canon_of (drop (i + 1) a)) one ∙ (ap (λ (zs : List CanonAttr). canon_of (get_or b i e) ∷ zs) s ∙ sym y)))

pub none-left : (a b : List Attribute) (i : ℕ) → length a ≤ i → length a ≡ length b → map canon_of (drop i a) ≡ map canon_of (drop i b)
none-left a b i h n = let other : length b ≤ i = omega arith in ap (map canon_of) (drop_all i a h ∙ sym (drop_all i b other))

pub lengths-same : (a b : List Attribute) → map canon_of a ≡ map canon_of b → length a ≡ length b
lengths-same a b e = sym (length-map a canon_of) ∙ (ap length e ∙ length-map b canon_of)
