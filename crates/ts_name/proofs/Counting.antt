-- Sets of attributes are one where each attribute occurs as often in both.
use Rattle.std.proofs.Common.{◌≡◌, ℕ, suc, List, [], ◌∷◌, ◌++◌, length, refl, sym, ap, ◌∙◌}
use Rattle.std.specs.Prelude.{map, All}
use Rattle.std.specs.List.{AllByRecursion}
use Rattle.std.proofs.lemmas.List.{map-append}
use Rattle.std.proofs.lemmas.List.Elements.{All-nil, All-cons}
use Rattle.ts_name.specs.Canon.{Attr, CanonAttr, canon_attr, canon_rdn, count_of, insert_attr, sort_attrs}
use Rattle.ts_name.proofs.Order.{same_counts, counts_same, sort-push}

-- how often an attribute occurs in canonical form
abbrev pub count_in : List Attr → Attr → ℕ
count_in xs a = count_of (canon_attr a) (map canon_attr xs)

-- each of these occurs as often in both lists
abbrev pub SameCounts : List Attr → List Attr → List Attr → Type 0
SameCounts xs ys these = AllByRecursion (λ (a : Attr). count_in xs a ≡ count_in ys a) these

pub counts-more : (xs ys front : List Attr) (x : Attr) → SameCounts xs ys front → count_in xs x ≡ count_in ys x → SameCounts xs ys (front ++ x ∷ [])
counts-more xs ys [] x each one = (one, tt)
counts-more xs ys (y ∷ front) x each one = (each.0, counts-more xs ys front x each.1 one)

each-canon : (P : CanonAttr → Type 0) (xs : List Attr) → AllByRecursion (λ (a : Attr). P (canon_attr a)) xs → All P (map canon_attr xs)
each-canon P [] each = All-nil P
each-canon P (x ∷ xs) each = All-cons P (canon_attr x) (map canon_attr xs) each.0 (each-canon P xs each.1)

length-canon : (xs : List Attr) → length (map canon_attr xs) ≡ length xs
length-canon [] = refl
length-canon (x ∷ xs) = ap (λ n. suc n) (length-canon xs)

pub one-if-counts : (xs ys : List Attr) → length xs ≡ length ys → SameCounts xs ys xs → canon_rdn xs ≡ canon_rdn ys
unfolding canon_rdn
one-if-counts xs ys lengths each =
    counts_same (map canon_attr xs) (map canon_attr ys) (length-canon xs ∙ (lengths ∙ sym (length-canon ys)))
    (each-canon (λ z. count_of z (map canon_attr xs) ≡ count_of z (map canon_attr ys)) xs each)

pub counts-if-one : (xs ys : List Attr) → canon_rdn xs ≡ canon_rdn ys → (a : Attr) → count_in xs a ≡ count_in ys a
unfolding canon_rdn
counts-if-one xs ys one a = let s = same_counts (map canon_attr xs) (map canon_attr ys) one in s.1 (canon_attr a)

pub lengths-if-one : (xs ys : List Attr) → canon_rdn xs ≡ canon_rdn ys → length xs ≡ length ys
unfolding canon_rdn
lengths-if-one xs ys one = let s = same_counts (map canon_attr xs) (map canon_attr ys) one in sym (length-canon xs) ∙ (s.0 ∙ length-canon ys)

-- the canonical form with one attribute more
pub canon-more : (front : List Attr) (x : Attr) → canon_rdn (front ++ x ∷ []) ≡ insert_attr (canon_attr x) (canon_rdn front)
unfolding canon_rdn
canon-more front x = ap sort_attrs (map-append canon_attr front (x ∷ [])) ∙ sort-push (map canon_attr front) (canon_attr x)

pub canon-none : canon_rdn [] ≡ []
unfolding canon_rdn
canon-none = refl

-- two lists with one attribute more, which is one in canonical form
pub order-more : (front other : List Attr) (x y : Attr)
    → map canon_attr front ≡ map canon_attr other → canon_attr x ≡ canon_attr y
    → map canon_attr (front ++ x ∷ []) ≡ map canon_attr (other ++ y ∷ [])
order-more front other x y e one =
    map-append canon_attr front (x ∷ [])
    ∙ (ap (λ (xs : List CanonAttr). xs ++ canon_attr x ∷ []) e
    ∙ (ap (λ (z : CanonAttr). map canon_attr other ++ z ∷ []) one
    ∙ sym (map-append canon_attr other (y ∷ []))))

-- lists that are one item by item are one as sets
pub one-in-order : (xs ys : List Attr) → map canon_attr xs ≡ map canon_attr ys → canon_rdn xs ≡ canon_rdn ys
unfolding canon_rdn
one-in-order xs ys e = ap sort_attrs e
