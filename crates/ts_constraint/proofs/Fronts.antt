-- Entries of a table that are fronts of what is looked up.
use Rattle.std.proofs.Common.{◌≡◌, ℕ, suc, ◌+◌, ◌-◌, ◌<◌, ◌≤◌, Bool, true, false, cond, List, []}
use Rattle.std.proofs.Common.{◌∷◌, ◌++◌, length, get_or, ltb, zero, refl, sym, ap, subst, ◌∙◌}
use Rattle.std.proofs.Common.{arith, Ordering, Option, Some, None, Result, Ok, Err}
use Rattle.std.specs.Prelude.{IsPermutation, ◌||◌, is_ok, map}
use Rattle.std.specs.List.{list_any, dedup, dedup_from, AllAdjacentBelow, HoldsAt}
use Rattle.std.specs.List.Sorted.{IsSorted, IsNonDecreasingBy, IsBinarySearchResult, IsPartitionedBy, IsPartitionPoint, IsSearchInRange}
use Rattle.std.specs.Cmp.{IsTotalOrder}
use Rattle.std.specs.Cmp.Lexicographic.{slice_cmp}
use Rattle.std.specs.Ordering.{ordering_then, ordering_reverse, ordering_index, is_eq, is_gt, is_le, is_lt}
use Rattle.std.specs.declared.cmp.Ordering.TheVariants.{Less, Equal, Greater}
use Rattle.std.proofs.lemmas.Bool.{false≢true, true≢false, ltb-true, ltb-false}
use Rattle.std.proofs.lemmas.Cmp.{alike_right, tied_itself, lists_total}
use Rattle.std.proofs.lemmas.List.Sorted.{IsNonDecreasingBy-from_all_adjacent, list_any-IsPermutation, searchable_from_sorted}
use Rattle.std.proofs.lemmas.Map.Lookups.{CmpEqualImpliesEq}
use Rattle.ts_constraint.specs.inside.Fronts.{front_cmp, is_front, has_front, AreApart}

not_less : Equal ≡ Less → ⊥
not_less e = true≢false (ap is_eq e)

above : Greater ≡ Less → ⊥
above e = true≢false (ap is_gt e)

above_equal : Greater ≡ Equal → ⊥
above_equal e = true≢false (ap is_gt e)

-- ---- lists that are compared with fronts, by an order

-- what is below a list, and not its front, is below what that list is not above
pub below-front : {A : Type 0} {R : A → A → Ordering} (o : IsTotalOrder R) (xs ys zs : List A) → front_cmp R xs ys ≡ Less → is_gt (front_cmp R ys zs) ≡ false → front_cmp R xs zs ≡ Less
below-front o [] ys zs e f = absurd (not_less e)
below-front o (x ∷ xs) [] zs e f = absurd (above e)
below-front o (x ∷ xs) (y ∷ ys) [] e f = absurd (true≢false f)
below-front {A} {R} o (x ∷ xs) (y ∷ ys) (z ∷ zs) e f = by_first (below-front o xs ys zs) (R x y) refl (R y z) refl e f
  where
    by_first : (front_cmp R xs ys ≡ Less → is_gt (front_cmp R ys zs) ≡ false → front_cmp R xs zs ≡ Less) → (a : Ordering) → R x y ≡ a → (b : Ordering) → R y z ≡ b
        → ordering_then a (front_cmp R xs ys) ≡ Less → is_gt (ordering_then b (front_cmp R ys zs)) ≡ false → ordering_then (R x z) (front_cmp R xs zs) ≡ Less
    by_first more Less p Less q e f = ap (λ (k : Ordering). ordering_then k (front_cmp R xs zs)) (o.trans x y z p q)
    by_first more Less p Equal q e f = ap (λ (k : Ordering). ordering_then k (front_cmp R xs zs)) (sym (alike_right o y z x q) ∙ p)
    by_first more Equal p Less q e f = ap (λ (k : Ordering). ordering_then k (front_cmp R xs zs)) (o.congr x y z p ∙ q)
    by_first more Equal p Equal q e f = ap (λ (k : Ordering). ordering_then k (front_cmp R xs zs)) (o.congr x y z p ∙ q) ∙ more e f
    by_first more Greater p b q e f = absurd (above e)
    by_first more a p Greater q e f = absurd (true≢false f)

-- a front of a front
pub front-front : {A : Type 0} {R : A → A → Ordering} (o : IsTotalOrder R) (xs ys zs : List A) → front_cmp R xs ys ≡ Equal → front_cmp R ys zs ≡ Equal → front_cmp R xs zs ≡ Equal
front-front o [] ys zs e f = refl
front-front o (x ∷ xs) [] zs e f = absurd (above_equal e)
front-front o (x ∷ xs) (y ∷ ys) [] e f = absurd (above_equal f)
front-front {A} {R} o (x ∷ xs) (y ∷ ys) (z ∷ zs) e f = by_first (front-front o xs ys zs) (R x y) refl (R y z) refl e f
  where
    by_first : (front_cmp R xs ys ≡ Equal → front_cmp R ys zs ≡ Equal → front_cmp R xs zs ≡ Equal) → (a : Ordering) → R x y ≡ a → (b : Ordering) → R y z ≡ b
        → ordering_then a (front_cmp R xs ys) ≡ Equal → ordering_then b (front_cmp R ys zs) ≡ Equal → ordering_then (R x z) (front_cmp R xs zs) ≡ Equal
    by_first more Equal p Equal q e f = ap (λ (k : Ordering). ordering_then k (front_cmp R xs zs)) (o.congr x y z p ∙ q) ∙ more e f
    by_first more Less p b q e f = absurd (not_less (sym e))
    by_first more Greater p b q e f = absurd (above_equal e)
    by_first more a p Less q e f = absurd (not_less (sym f))
    by_first more a p Greater q e f = absurd (above_equal f)

-- of a front, or of what is below, what is not above the list is not above the front
pub up_to-front : {A : Type 0} {R : A → A → Ordering} (o : IsTotalOrder R) (xs ys zs : List A)
    → is_gt (front_cmp R xs ys) ≡ false → is_gt (front_cmp R ys zs) ≡ false
    → is_gt (front_cmp R xs zs) ≡ false
up_to-front o [] ys zs e f = refl
up_to-front o (x ∷ xs) [] zs e f = absurd (true≢false e)
up_to-front o (x ∷ xs) (y ∷ ys) [] e f = absurd (true≢false f)
up_to-front {A} {R} o (x ∷ xs) (y ∷ ys) (z ∷ zs) e f = by_first (up_to-front o xs ys zs) (R x y) refl (R y z) refl e f
  where
    by_first : (is_gt (front_cmp R xs ys) ≡ false → is_gt (front_cmp R ys zs) ≡ false → is_gt (front_cmp R xs zs) ≡ false) → (a : Ordering) → R x y ≡ a → (b : Ordering) → R y z ≡ b
        → is_gt (ordering_then a (front_cmp R xs ys)) ≡ false → is_gt (ordering_then b (front_cmp R ys zs)) ≡ false → is_gt (ordering_then (R x z) (front_cmp R xs zs)) ≡ false
    by_first more Less p Less q e f = ap (λ (k : Ordering). is_gt (ordering_then k (front_cmp R xs zs))) (o.trans x y z p q)
    by_first more Less p Equal q e f = ap (λ (k : Ordering). is_gt (ordering_then k (front_cmp R xs zs))) (sym (alike_right o y z x q) ∙ p)
    by_first more Equal p Less q e f = ap (λ (k : Ordering). is_gt (ordering_then k (front_cmp R xs zs))) (o.congr x y z p ∙ q)
    by_first more Equal p Equal q e f = ap (λ (k : Ordering). is_gt (ordering_then k (front_cmp R xs zs))) (o.congr x y z p ∙ q) ∙ more e f
    by_first more Greater p b q e f = absurd (true≢false e)
    by_first more a p Greater q e f = absurd (true≢false f)

-- the order of whole lists by comparing each with the front of the other
pub by-fronts : {A : Type 0} {R : A → A → Ordering} (o : IsTotalOrder R) (xs ys : List A) → ordering_then (front_cmp R xs ys) (ordering_reverse (front_cmp R ys xs)) ≡ slice_cmp R xs ys
by-fronts o [] [] = refl
by-fronts o [] (y ∷ ys) = refl
by-fronts o (x ∷ xs) [] = refl
by-fronts {A} {R} o (x ∷ xs) (y ∷ ys) =
    ap (λ (k : Ordering). ordering_then (ordering_then (R x y) (front_cmp R xs ys))
    (ordering_reverse (ordering_then k (front_cmp R ys xs)))) (o.antisymm y x)
    ∙ by_first (by-fronts o xs ys) (R x y)
  where
    by_first : ordering_then (front_cmp R xs ys) (ordering_reverse (front_cmp R ys xs)) ≡ slice_cmp R xs ys → (a : Ordering)
        → ordering_then (ordering_then a (front_cmp R xs ys)) (ordering_reverse (ordering_then (ordering_reverse a) (front_cmp R ys xs))) ≡ ordering_then a (slice_cmp R xs ys)
    by_first more Less = refl
    by_first more Equal = more
    by_first more Greater = refl

-- where a list is no front of another, they are in the order of whole lists
pub no-front : {A : Type 0} (R : A → A → Ordering) (xs ys : List A) → is_front R xs ys ≡ false → front_cmp R xs ys ≡ slice_cmp R xs ys
no-front R [] ys e = absurd (true≢false e)
no-front R (x ∷ xs) [] e = refl
no-front R (x ∷ xs) (y ∷ ys) e = by_first (no-front R xs ys) (R x y) e
  where
    by_first : (is_front R xs ys ≡ false → front_cmp R xs ys ≡ slice_cmp R xs ys) → (a : Ordering) → is_eq (ordering_then a (front_cmp R xs ys)) ≡ false
        → ordering_then a (front_cmp R xs ys) ≡ ordering_then a (slice_cmp R xs ys)
    by_first more Less e = refl
    by_first more Equal e = more e
    by_first more Greater e = refl

-- what is no less than a list is not below its front
pub not-above : {A : Type 0} {R : A → A → Ordering} (o : IsTotalOrder R) (xs ys : List A) → is_lt (slice_cmp R ys xs) ≡ false → is_gt (front_cmp R xs ys) ≡ false
not-above o [] ys e = refl
not-above o (x ∷ xs) [] e = absurd (true≢false e)
not-above {A} {R} o (x ∷ xs) (y ∷ ys) e = ap (λ (k : Ordering). is_gt (ordering_then k (front_cmp R xs ys))) (o.antisymm x y) ∙ by_first (not-above o xs ys) (R y x) e
  where
    by_first : (is_lt (slice_cmp R ys xs) ≡ false → is_gt (front_cmp R xs ys) ≡ false) → (a : Ordering) → is_lt (ordering_then a (slice_cmp R ys xs)) ≡ false
        → is_gt (ordering_then (ordering_reverse a) (front_cmp R xs ys)) ≡ false
    by_first more Less e = absurd (true≢false e)
    by_first more Equal e = more e
    by_first more Greater e = refl

-- a front, and what follows it
pub front-of : {A : Type 0} {R : A → A → Ordering} → CmpEqualImpliesEq R → (xs ys : List A) → front_cmp R xs ys ≡ Equal → (behind : List A) × (ys ≡ xs ++ behind)
front-of exact [] ys e = (ys, refl)
front-of exact (x ∷ xs) [] e = absurd (above_equal e)
front-of {A} {R} exact (x ∷ xs) (y ∷ ys) e = by_first (front-of exact xs ys) (R x y) refl e
  where
    by_first : (front_cmp R xs ys ≡ Equal → (behind : List A) × (ys ≡ xs ++ behind))
        → (a : Ordering) → R x y ≡ a → ordering_then a (front_cmp R xs ys) ≡ Equal
        → (behind : List A) × (y ∷ ys ≡ x ∷ xs ++ behind)
    by_first more Less p e = absurd (not_less (sym e))
    by_first more Equal p e = let rest = more e in let same = exact x y p in (rest.0, cc)
    by_first more Greater p e = absurd (above_equal e)

pub of-front : {A : Type 0} {R : A → A → Ordering} (o : IsTotalOrder R) (xs behind : List A) → front_cmp R xs (xs ++ behind) ≡ Equal
of-front o [] behind = refl
of-front {A} {R} o (x ∷ xs) behind = ap (λ (k : Ordering). ordering_then k (front_cmp R xs (xs ++ behind))) (tied_itself o x) ∙ of-front o xs behind

-- ---- entries in order

-- each is below the next, or its front
abbrev pub Ascend : {X A : Type 0} → (A → A → Ordering) → (X → List A) → List X → Type 0
Ascend R key [] = Unit {0}
Ascend R key (x ∷ []) = Unit {0}
Ascend R key (x ∷ y ∷ rest) = (is_gt (front_cmp R (key x) (key y)) ≡ false) × Ascend R key (y ∷ rest)

tail-sorted : {X : Type 0} (cmp : X → X → Ordering) (x : X) (xs : List X) → IsSorted cmp (x ∷ xs) → IsSorted cmp xs
tail-sorted {X} cmp x xs s k d low high =
    let next : suc k + 1 ≡ suc (k + 1) = omega arith in
    subst (λ (n : ℕ). is_lt (cmp (get_or (x ∷ xs) n d) (get_or xs k d)) ≡ false) next (s (suc k) d (omega arith) (omega arith))

pub ascend-sorted : {X A : Type 0} {R : A → A → Ordering} (o : IsTotalOrder R) (key : X → List A) (xs : List X) → IsSorted (λ (a b : X). slice_cmp R (key a) (key b)) xs → Ascend R key xs
ascend-sorted o key [] s = tt
ascend-sorted o key (x ∷ []) s = tt
ascend-sorted {X} {A} {R} o key (x ∷ y ∷ rest) s =
    (not-above o (key x) (key y) (s 0 x (omega arith) (omega arith)), ascend-sorted o key (y ∷ rest) (tail-sorted (λ (a b : X). slice_cmp R (key a) (key b)) x (y ∷ rest) s))

ascend-skip : {X A : Type 0} {R : A → A → Ordering} (o : IsTotalOrder R) (key : X → List A) (x y : X) (rest : List X) → Ascend R key (x ∷ y ∷ rest) → Ascend R key (x ∷ rest)
ascend-skip o key x y [] s = tt
ascend-skip o key x y (z ∷ rest) s = (up_to-front o (key x) (key y) (key z) s.0 s.1.0, s.1.1)

-- ---- entries without those that another is a front of

-- the entry kept last, if there is one, is a front of the next
abbrev covers : {X A : Type 0} → (A → A → Ordering) → (X → List A) → Option X → X → Bool
covers cmp key None entry = false
covers cmp key (Some last) entry = is_front cmp (key last) (key entry)

-- entries in order without each of which the entry kept before is a front
abbrev pruned : {X A : Type 0} → (A → A → Ordering) → (X → List A) → Option X → List X → List X
pruned cmp key last [] = []
pruned cmp key last (x ∷ xs) = cond (covers cmp key last x) (pruned cmp key last xs) (x ∷ pruned cmp key (Some x) xs)

-- each entry is below the next, and not a front of it
abbrev pub Chain : {X A : Type 0} → (A → A → Ordering) → (X → List A) → List X → Type 0
Chain cmp key [] = Unit {0}
Chain cmp key (x ∷ []) = Unit {0}
Chain cmp key (x ∷ y ∷ rest) = (front_cmp cmp (key x) (key y) ≡ Less) × Chain cmp key (y ∷ rest)

remains : (a : Ordering) → is_gt a ≡ false → is_eq a ≡ false → a ≡ Less
remains Less e f = refl
remains Equal e f = absurd (true≢false f)
remains Greater e f = absurd (true≢false e)

pub equal-from : (a : Ordering) → is_eq a ≡ true → a ≡ Equal
equal-from Less e = absurd (false≢true e)
equal-from Equal e = refl
equal-from Greater e = absurd (false≢true e)

apart-behind : {X A : Type 0} {R : A → A → Ordering} (o : IsTotalOrder R) (key : X → List A) (last : X) (xs : List X) → Ascend R key (last ∷ xs) → Chain R key (last ∷ pruned R key (Some last) xs)
apart-behind o key last [] s = tt
apart-behind {X} {A} {R} o key last (x ∷ xs) s =
    by_test (apart-behind o key last xs (ascend-skip o key last x xs s)) (apart-behind o key x xs s.1) (is_front R (key last) (key x)) refl
  where
    by_test : Chain R key (last ∷ pruned R key (Some last) xs) → Chain R key (x ∷ pruned R key (Some x) xs) → (t : Bool) → is_front R (key last) (key x) ≡ t
        → Chain R key (last ∷ cond t (pruned R key (Some last) xs) (x ∷ pruned R key (Some x) xs))
    by_test skipped kept true e = skipped
    by_test skipped kept false e = (remains (front_cmp R (key last) (key x)) s.0 e, kept)

pruned-apart : {X A : Type 0} {R : A → A → Ordering} (o : IsTotalOrder R) (key : X → List A) (xs : List X) → Ascend R key xs → Chain R key (pruned R key None xs)
pruned-apart o key [] s = tt
pruned-apart o key (x ∷ xs) s = apart-behind o key x xs s

either-first : (a b c : Bool) → (b ≡ true → a ≡ true) → a || c ≡ a || (b || c)
either-first true b c f = refl
either-first false true c f = absurd (false≢true (f refl))
either-first false false c f = refl

pruned-behind : {X A : Type 0} {R : A → A → Ordering} (o : IsTotalOrder R) (key : X → List A) (item : List A) (last : X) (xs : List X)
    → has_front R key (last ∷ pruned R key (Some last) xs) item ≡ has_front R key (last ∷ xs) item
pruned-behind o key item last [] = refl
pruned-behind {X} {A} {R} o key item last (x ∷ xs) =
    by_test (pruned-behind o key item last xs) (pruned-behind o key item x xs) (is_front R (key last) (key x)) refl
  where
    by_test : has_front R key (last ∷ pruned R key (Some last) xs) item ≡ has_front R key (last ∷ xs) item → has_front R key (x ∷ pruned R key (Some x) xs) item ≡ has_front R key (x ∷ xs) item
        → (t : Bool) → is_front R (key last) (key x) ≡ t
        → has_front R key (last ∷ cond t (pruned R key (Some last) xs) (x ∷ pruned R key (Some x) xs)) item ≡ has_front R key (last ∷ x ∷ xs) item
    by_test skipped kept true e =
        skipped ∙ either-first (is_front R (key last) item) (is_front R (key x) item) (has_front R key xs item)
        (λ f. ap is_eq (front-front o (key last) (key x) item (equal-from _ e) (equal-from _ f)))
    by_test skipped kept false e = ap (λ (b : Bool). is_front R (key last) item || b) kept

pub pruned-same : {X A : Type 0} {R : A → A → Ordering} (o : IsTotalOrder R) (key : X → List A) (xs : List X) (item : List A) → has_front R key (pruned R key None xs) item ≡ has_front R key xs item
pruned-same o key [] item = refl
pruned-same o key (x ∷ xs) item = pruned-behind o key item x xs

-- ---- a binary search

adjacent : {X A : Type 0} (R : A → A → Ordering) (key : X → List A) (xs : List X) → Chain R key xs → AreApart R key xs
adjacent R key [] s k d h = absurd (omega arith)
adjacent R key (x ∷ []) s k d h = absurd (omega arith)
adjacent R key (x ∷ y ∷ rest) s zero d h = s.0
adjacent R key (x ∷ y ∷ rest) s (suc k) d h =
    let next : suc (k + 1) ≡ suc k + 1 = omega arith in
    subst (λ (n : ℕ). front_cmp R (key (get_or (y ∷ rest) k d)) (key (get_or (x ∷ y ∷ rest) n d)) ≡ Less) next (adjacent R key (y ∷ rest) s.1 k d (omega arith))

rises : (a b : Ordering) → (is_gt b ≡ false → a ≡ Less) → ordering_index a ≤ ordering_index b
rises a Greater f = by_first a
  where
    by_first : (a : Ordering) → ordering_index a ≤ 2
    by_first Less = omega arith
    by_first Equal = omega arith
    by_first Greater = omega arith
rises a Less f = ap_index (f refl)
  where
    ap_index : a ≡ Less → ordering_index a ≤ 0
    ap_index e = let n : ordering_index a ≡ 0 = ap ordering_index e in omega arith
rises a Equal f = ap_index (f refl)
  where
    ap_index : a ≡ Less → ordering_index a ≤ 1
    ap_index e = let n : ordering_index a ≡ 0 = ap ordering_index e in omega arith

rising : {X A : Type 0} {R : A → A → Ordering} (o : IsTotalOrder R) (key : X → List A) (xs : List X)
    (item : List A) → AreApart R key xs
    → IsNonDecreasingBy (λ (x : X). ordering_index (front_cmp R (key x) item)) xs
rising {X} {A} {R} o key xs item s =
    IsNonDecreasingBy-from_all_adjacent (λ (x : X). ordering_index (front_cmp R (key x) item)) xs
    (λ k d h. rises _ _ (below-front o (key (get_or xs k d)) (key (get_or xs (k + 1) d)) item (s k d h)))

any-at : {X : Type 0} (p : X → Bool) (xs : List X) (i : ℕ) → i < length xs → ((d : X) → p (get_or xs i d) ≡ true) → list_any p xs ≡ true
any-at p [] i h f = absurd (omega arith)
any-at p (x ∷ xs) zero h f = ap (λ b. b || list_any p xs) (f x)
any-at {X} p (x ∷ xs) (suc i) h f = by_test (any-at p xs i (omega arith) f) (p x)
  where
    by_test : list_any p xs ≡ true → (t : Bool) → t || list_any p xs ≡ true
    by_test e true = refl
    by_test e false = e

any-none : {X : Type 0} (p : X → Bool) (xs : List X) → ((k : ℕ) (d : X) → k < length xs → p (get_or xs k d) ≡ false) → list_any p xs ≡ false
any-none p [] f = refl
any-none p (x ∷ xs) f = ap (λ b. b || list_any p xs) (f 0 x (omega arith)) ∙ any-none p xs (λ k d h. f (suc k) d (omega arith))

-- what a test by an order answers of each entry, where none is equal
none-equal : {X : Type 0} (ord : X → Ordering) (xs : List X) (i : ℕ) → IsPartitionPoint (λ (x : X). ord x ≡ Less) (λ (x : X). ord x ≡ Greater) xs i → list_any (λ x. is_eq (ord x)) xs ≡ false
none-equal {X} ord xs i parts = any-none (λ x. is_eq (ord x)) xs (λ k d h. by_side k d h (ltb k i) refl)
  where
    by_side : (k : ℕ) (d : X) → k < length xs → (t : Bool) → ltb k i ≡ t → is_eq (ord (get_or xs k d)) ≡ false
    by_side k d h true e = ap is_eq (parts.0 k d (omega arith) (ltb-true k i e))
    by_side k d h false e = ap is_eq (parts.1 k d (ltb-false k i e) h)

-- the search of a table finds an entry exactly where one is a front of the item
pub found : {X A : Type 0} {R : A → A → Ordering} (o : IsTotalOrder R) (key : X → List A) (xs : List X) (item : List A) (r : Result ℕ ℕ) → AreApart R key xs
    → IsBinarySearchResult (λ (x : X). front_cmp R (key x) item) xs r → IsSearchInRange r (length xs) → is_ok r ≡ has_front R key xs item
found {X} {A} {R} o key xs item (Ok i) apart at h = sym (any-at (λ x. is_front R (key x) item) xs i h (λ d. ap is_eq (at d)))
found {X} {A} {R} o key xs item (Err i) apart at h = sym (none-equal (λ (x : X). front_cmp R (key x) item) xs i (at (rising o key xs item apart)))

-- ---- entries that were put in order, without each of which the one kept before it is a front

abbrev pub without_fronted : {X A : Type 0} → (A → A → Ordering) → (X → List A) → List X → List X
without_fronted R key xs = dedup (λ x kept. is_front R (key kept) (key x)) xs

dedup-behind : {X A : Type 0} (R : A → A → Ordering) (key : X → List A) (last : X) (xs : List X) → dedup_from (λ x kept. is_front R (key kept) (key x)) last xs ≡ last ∷ pruned R key (Some last) xs
dedup-behind R key last [] = refl
dedup-behind {X} {A} R key last (x ∷ xs) = by_test (dedup-behind R key last xs) (dedup-behind R key x xs) (is_front R (key last) (key x))
  where
    by_test : dedup_from (λ x kept. is_front R (key kept) (key x)) last xs ≡ last
        ∷ pruned R key (Some last) xs
        → dedup_from (λ x kept. is_front R (key kept) (key x)) x xs ≡ x ∷ pruned R key (Some x) xs
        → (t : Bool)
        → cond t (dedup_from (λ x kept. is_front R (key kept) (key x)) last xs)
        (last ∷ dedup_from (λ x kept. is_front R (key kept) (key x)) x xs) ≡ last
        ∷ cond t (pruned R key (Some last) xs) (x ∷ pruned R key (Some x) xs)
    by_test skipped kept true = skipped
    by_test skipped kept false = ap (λ (ys : List X). last ∷ ys) kept

dedup-is : {X A : Type 0} (R : A → A → Ordering) (key : X → List A) (xs : List X) → without_fronted R key xs ≡ pruned R key None xs
dedup-is R key [] = refl
dedup-is R key (x ∷ xs) = dedup-behind R key x xs

pub table-apart : {X A : Type 0} {R : A → A → Ordering} (o : IsTotalOrder R) (key : X → List A)
    (sorted : List X) → IsSorted (λ (a b : X). slice_cmp R (key a) (key b)) sorted
    → AreApart R key (without_fronted R key sorted)
table-apart {X} {A} {R} o key sorted s =
    subst (λ (xs : List X). AreApart R key xs) (sym (dedup-is R key sorted)) (adjacent R key (pruned R key None sorted) (pruned-apart o key sorted (ascend-sorted o key sorted s)))

pub table-same : {X A : Type 0} {R : A → A → Ordering} (o : IsTotalOrder R) (key : X → List A)
    (xs sorted : List X) (item : List A) → IsPermutation xs sorted
    → has_front R key (without_fronted R key sorted) item ≡ has_front R key xs item
table-same {X} {A} {R} o key xs sorted item p =
    ap (λ (ys : List X). has_front R key ys item) (dedup-is R key sorted) ∙ (pruned-same o key sorted item ∙ sym (list_any-IsPermutation (λ x. is_front R (key x) item) xs sorted p))

-- ---- a search by the order of whole lists

up_to-whole : {A : Type 0} {R : A → A → Ordering} (o : IsTotalOrder R) (xs ys : List A) → is_le (slice_cmp R xs ys) ≡ true → is_gt (front_cmp R xs ys) ≡ false
up_to-whole {A} {R} o xs ys e = not-above o xs ys (ap is_lt (o_antisymm xs ys) ∙ by_order (slice_cmp R xs ys) e)
  where
    o_antisymm : (xs ys : List A) → slice_cmp R ys xs ≡ ordering_reverse (slice_cmp R xs ys)
    o_antisymm xs ys = (lists_total o).antisymm ys xs

    by_order : (a : Ordering) → is_le a ≡ true → is_lt (ordering_reverse a) ≡ false
    by_order Less e = refl
    by_order Equal e = refl
    by_order Greater e = absurd (false≢true e)

front-up_to : {A : Type 0} (R : A → A → Ordering) (xs ys : List A) → is_front R xs ys ≡ true → is_le (slice_cmp R xs ys) ≡ true
front-up_to R [] [] e = refl
front-up_to R [] (y ∷ ys) e = refl
front-up_to R (x ∷ xs) [] e = absurd (false≢true e)
front-up_to R (x ∷ xs) (y ∷ ys) e = by_first (front-up_to R xs ys) (R x y) e
  where
    by_first : (is_front R xs ys ≡ true → is_le (slice_cmp R xs ys) ≡ true) → (a : Ordering) → is_eq (ordering_then a (front_cmp R xs ys)) ≡ true → is_le (ordering_then a (slice_cmp R xs ys)) ≡ true
    by_first more Less e = refl
    by_first more Equal e = more e
    by_first more Greater e = absurd (false≢true e)

less-behind : (a b : Ordering) → a ≡ b → b ≡ Less → is_lt (ordering_reverse a) ≡ false
less-behind a b e f = ap (λ (k : Ordering). is_lt (ordering_reverse k)) (e ∙ f)

apart-sorted : {X A : Type 0} {R : A → A → Ordering} (o : IsTotalOrder R) (key : X → List A) (xs : List X) → AreApart R key xs → IsSorted (λ (a b : X). slice_cmp R (key a) (key b)) xs
apart-sorted {X} {A} {R} o key xs apart k d low high =
    let a = key (get_or xs k d) in
    let b = key (get_or xs (k + 1) d) in
    let less : front_cmp R a b ≡ Less = apart k d high in
    ap is_lt ((lists_total o).antisymm b a) ∙ less-behind (slice_cmp R a b) (front_cmp R a b) (sym (no-front R a b (ap is_eq less))) less

-- the entries up to an item come first
pub up_to-first : {X A : Type 0} {R : A → A → Ordering} (o : IsTotalOrder R) (key : X → List A)
    (xs : List X) (item : List A) → AreApart R key xs
    → IsPartitionedBy (λ (x : X). is_le (slice_cmp R (key x) item)) xs
up_to-first {X} {A} {R} o key xs item apart i j d h low e =
    by_index (slice_cmp R (key (get_or xs i d)) item) (slice_cmp R (key (get_or xs j d)) item)
    (searchable_from_sorted (lists_total o) key xs item (apart-sorted o key xs apart) i j d h low) e
  where
    by_index : (a b : Ordering) → ordering_index a ≤ ordering_index b → is_le b ≡ true → is_le a ≡ true
    by_index Less b h e = refl
    by_index Equal b h e = refl
    by_index Greater Less h e = absurd (omega arith)
    by_index Greater Equal h e = absurd (omega arith)
    by_index Greater Greater h e = absurd (false≢true e)

-- where the last entry that is up to an item is not its front, none is
none-front : {X A : Type 0} {R : A → A → Ordering} (o : IsTotalOrder R) (key : X → List A)
    (xs : List X) (item : List A) (i : ℕ) → AreApart R key xs
    → IsPartitionPoint (λ (x : X). is_le (slice_cmp R (key x) item) ≡ true)
    (λ (x : X). is_le (slice_cmp R (key x) item) ≡ false) xs i
    → ((d : X) → 0 < i → is_front R (key (get_or xs (i - 1) d)) item ≡ false) → i ≤ length xs → has_front R key xs item ≡ false
none-front {X} {A} {R} o key xs item i apart parts last high = any-none (λ (x : X). is_front R (key x) item) xs (λ k d h. by_side k d h (ltb k i) refl)
  where
    below : (a b : Ordering) → ordering_index a ≤ ordering_index b → is_gt b ≡ false → is_eq b ≡ false → is_eq a ≡ false
    below Less b h e f = refl
    below Equal Less h e f = absurd (omega arith)
    below Equal Equal h e f = absurd (true≢false f)
    below Equal Greater h e f = absurd (true≢false e)
    below Greater b h e f = refl

    above_item : (k : ℕ) (d : X) → i ≤ k → k < length xs → (t : Bool) → is_front R (key (get_or xs k d)) item ≡ t → t ≡ false
    above_item k d h low true e = absurd (false≢true (sym (parts.1 k d h low) ∙ front-up_to R (key (get_or xs k d)) item e))
    above_item k d h low false e = refl

    by_side : (k : ℕ) (d : X) → k < length xs → (t : Bool) → ltb k i ≡ t → is_front R (key (get_or xs k d)) item ≡ false
    by_side k d h true e =
        let kth = ltb-true k i e in
        below (front_cmp R (key (get_or xs k d)) item) (front_cmp R (key (get_or xs (i - 1) d)) item) (rising o key xs item apart k (i - 1) d (omega arith) (omega arith))
        (up_to-whole o (key (get_or xs (i - 1) d)) item (parts.0 (i - 1) d (omega arith) (omega arith))) (last d (omega arith))
    by_side k d h false e = above_item k d (ltb-false k i e) h (is_front R (key (get_or xs k d)) item) refl

-- the last entry that is up to an item is its front exactly where one is
pub by-last : {X A : Type 0} {R : A → A → Ordering} (o : IsTotalOrder R) (key : X → List A)
    (xs : List X) (item : List A) (i : ℕ) → AreApart R key xs
    → IsPartitionPoint (λ (x : X). is_le (slice_cmp R (key x) item) ≡ true)
    (λ (x : X). is_le (slice_cmp R (key x) item) ≡ false) xs i
    → i ≤ length xs → 0 < i → (x : X) → ((d : X) → get_or xs (i - 1) d ≡ x) → is_front R (key x) item ≡ has_front R key xs item
by-last {X} {A} {R} o key xs item i apart parts high low x is = by_test (is_front R (key x) item) refl
  where
    by_test : (t : Bool) → is_front R (key x) item ≡ t → t ≡ has_front R key xs item
    by_test true e = sym (any-at (λ (x : X). is_front R (key x) item) xs (i - 1) (omega arith) (λ d. ap (λ (y : X). is_front R (key y) item) (is d) ∙ e))
    by_test false e = sym (none-front o key xs item i apart parts (λ d h. ap (λ (y : X). is_front R (key y) item) (is d) ∙ e) high)

pub none-up_to : {X A : Type 0} {R : A → A → Ordering} (o : IsTotalOrder R) (key : X → List A)
    (xs : List X) (item : List A) (i : ℕ) → AreApart R key xs
    → IsPartitionPoint (λ (x : X). is_le (slice_cmp R (key x) item) ≡ true)
    (λ (x : X). is_le (slice_cmp R (key x) item) ≡ false) xs i
    → i ≡ 0 → false ≡ has_front R key xs item
none-up_to o key xs item i apart parts e = sym (none-front o key xs item i apart parts (λ d h. absurd (omega arith)) (omega arith))

-- an item of a list is the same whatever is given in place of one past its end
pub same-item : {X : Type 0} (xs : List X) (i : ℕ) (d e : X) → i < length xs → get_or xs i d ≡ get_or xs i e
same-item [] i d e h = absurd (omega arith)
same-item (x ∷ xs) zero d e h = refl
same-item (x ∷ xs) (suc i) d e h = same-item xs i d e (omega arith)

-- entries by their keys
pub by-key : {X A : Type 0} (R : A → A → Ordering) (key : X → List A) (xs : List X) (item : List A) → has_front R key xs item ≡ has_front R (λ (k : List A). k) (map key xs) item
by-key R key [] item = refl
by-key R key (x ∷ xs) item = ap (λ b. is_front R (key x) item || b) (by-key R key xs item)
