-- The attributes of a relative distinguished name that was read, and how many there are.
use Rattle.std.proofs.Common.{◌≡◌, ℕ, suc, ◌+◌, ◌<◌, ◌≤◌, ◌^◌, Bool, true, false, cond, List, [], ◌∷◌, ◌++◌, length, refl, sym, ap, subst, ◌∙◌, arith}
use Rattle.std.specs.Prelude.{map, count_by}
use Rattle.std.proofs.lemmas.List.{append_assoc}
use Rattle.std.proofs.lemmas.List.Sums.{sum_by-append, sum_by-cons, count_by-le-length}
use Rattle.ts_der.specs.Element.{inside}
use Rattle.ts_der.specs.View.{now}
use Rattle.ts_der.specs.Reading.{many}
use Rattle.ts_name.specs.declared.rdn.Rdn.{Rdn}
use Rattle.ts_name.specs.Canon.{Attr, CanonAttr, canon_attr, count_of, is_same}
use Rattle.ts_name.specs.Names.{attribute_at, attribute_of}
use Rattle.ts_name.specs.NameView.{attributes_in}
use Rattle.ts_shape.proofs.Walks.{many-short, ok_unwrapped}
use Rattle.ts_name.proofs.Order.{is_same-itself, one_if_same}

-- there are fewer attributes than a usize counts
pub few : (r : Rdn) → length (attributes_in r) < 2 ^ 64
few r =
    let short = many-short 0x30 attribute_of (attributes_in r) (inside (now r.element)) (ok_unwrapped (many attribute_at (inside (now r.element))) [] r.form) in
    let bound = r.element.within in
    omega arith

-- a front of a list is no longer than the list
pub front-short : {A : Type 0} (all front rest : List A) (x : A) → all ≡ front ++ x ∷ rest → length front < length all
front-short {A} all front rest x e = subst (λ (xs : List A). length front < length xs) (sym e) (longer front)
  where
    longer : (front : List A) → length front < length (front ++ x ∷ rest)
    longer [] = omega arith
    longer (y ∷ front) = let more = longer front in omega arith

-- one item more of the front
pub goes : {A : Type 0} (all front rest : List A) (x : A) → all ≡ front ++ x ∷ rest → all ≡ (front ++ x ∷ []) ++ rest
goes all front rest x e = e ∙ sym (append_assoc front (x ∷ []) rest)

-- what is counted with one item more
pub count-more : (z : CanonAttr) (front : List Attr) (x : Attr) → count_of z (map canon_attr (front ++ x ∷ [])) ≡ count_of z (map canon_attr front) + cond (is_same z (canon_attr x)) 1 0
count-more z front x =
    ap (λ (xs : List CanonAttr). count_by (is_same z) xs) (map_append front x)
    ∙ (sum_by-append (λ y. cond (is_same z y) 1 0) (map canon_attr front) (canon_attr x ∷ [])
    ∙ ap (λ n. count_by (is_same z) (map canon_attr front) + n)
    (sum_by-cons (λ y. cond (is_same z y) 1 0) (canon_attr x) []
    ∙ zero (cond (is_same z (canon_attr x)) 1 0)))
  where
    map_append : (front : List Attr) (x : Attr) → map canon_attr (front ++ x ∷ []) ≡ map canon_attr front ++ canon_attr x ∷ []
    map_append [] x = refl
    map_append (y ∷ front) x = ap (λ (xs : List CanonAttr). canon_attr y ∷ xs) (map_append front x)

    zero : (n : ℕ) → n + 0 ≡ n
    zero n = omega arith

pub count-short : (z : CanonAttr) (front : List Attr) → count_of z (map canon_attr front) ≤ length front
count-short z front = subst (λ n. count_of z (map canon_attr front) ≤ n) (length_map front) (count_by-le-length (is_same z) (map canon_attr front))
  where
    length_map : (front : List Attr) → length (map canon_attr front) ≡ length front
    length_map [] = refl
    length_map (x ∷ front) = ap (λ n. suc n) (length_map front)

abbrev if_one : Bool → ℕ
if_one b = cond b 1 0

-- attributes that are one count once
pub same-counts : (z y : CanonAttr) → z ≡ y → if_one (is_same z y) ≡ 1
same-counts z y e = ap (λ (b : Bool). if_one b) (ap (is_same z) (sym e) ∙ is_same-itself z)

pub other-counts : (z y : CanonAttr) → (z ≡ y → ⊥) → if_one (is_same z y) ≡ 0
other-counts z y ne = by_test (is_same z y) refl
  where
    by_test : (b : Bool) → is_same z y ≡ b → if_one (is_same z y) ≡ 0
    by_test true e = absurd (ne (one_if_same z y e))
    by_test false e = ap if_one e

pub length-more : {A : Type 0} (front : List A) (x : A) → length (front ++ x ∷ []) ≡ length front + 1
length-more [] x = refl
length-more (y ∷ front) x = let more = length-more front x in omega arith
