-- Sorted labels: what sorting keeps, what a binary search says, and that they ascend.
use Rattle.std.proofs.Common.{◌≡◌, ◌↔◌, ℕ, ◌+◌, ◌<◌, zero, suc, true, false, List, [], ◌∷◌, map, refl, sym, ap, ◌∙◌, inl, inr, Contains, get_or, length, Result, Ok, Err, Ordering, arith}
use Rattle.std.specs.Prelude.{is_ok, bytes_eq}
use Rattle.std.specs.Ordering.{nat_cmp, is_lt, is_eq, ordering_reverse, MatchOrdering}
use Rattle.std.specs.declared.cmp.Ordering.TheVariants.{Less, Equal, Greater}
use Rattle.std.specs.Cmp.{IsTotalOrder}
use Rattle.std.specs.Cmp.Lexicographic.{slice_cmp, on_texts, texts_ties, on_texts_equal}
use Rattle.std.specs.List.{dedup, AllByRecursion}
use Rattle.std.specs.List.Sorted.{IsStrictlySortedBy, IsSorted, IsBinarySearchResult, IsPermutation, IsSearchInRange}
use Rattle.std.proofs.lemmas.Cmp.{same_from_slice_cmp, nat_list_cmp_total, tied_itself}
use Rattle.std.proofs.lemmas.Bool.{cases_lt}
use Rattle.std.proofs.lemmas.Bool.Decides.{nat_tests}
use Rattle.std.proofs.lemmas.List.Kept.{IsStrictlySortedBy-dedup, Any-dedup, Contains-from_dedup}
use Rattle.std.proofs.lemmas.List.Sorted.{Contains-permutation, IsPermutation-sym, searchable_from_sorted}
use Rattle.ts_policy.specs.Labels.{Label, same, In, has}
use Rattle.ts_policy.specs.Accepted.{comes_before, AreAscending}
use Rattle.ts_policy.proofs.Same.{eq-from_same}
use Rattle.ts_policy.proofs.Lists.{In-map, In-from_map, In-from_Contains, Contains-from_In, moved, decide, In-has, In-from_has}

tied : (p q : Label) → slice_cmp nat_cmp p q ≡ Equal → same p q ≡ true
unfolding same
tied p q e = texts_ties p q ∙ ap is_eq e

tie : (p q : Label) → bytes_eq p q ≡ true → p ≡ q
unfolding same
tie p q e = eq-from_same p q e

comes_if_less : (p q : Label) → slice_cmp nat_cmp p q ≡ Less → comes_before p q ≡ true
comes_if_less p q e =
    sym (same_from_slice_cmp nat_cmp is_lt comes_before refl (λ _ _. refl) (λ _ _. refl) heads p q (slice_cmp nat_cmp p q) refl) ∙ ap is_lt e
  where
    heads : (x y : ℕ) (xs ys : Label) (o : Ordering) → o ≡ nat_cmp x y
        → MatchOrdering o (comes_before (x ∷ xs) (y ∷ ys) ≡ true)
        (comes_before (x ∷ xs) (y ∷ ys) ≡ comes_before xs ys)
        (comes_before (x ∷ xs) (y ∷ ys) ≡ false)
    heads x y xs ys o h = grind (arith, nat_tests)

less_reversed : (a b : Ordering) → a ≡ ordering_reverse b → b ≡ Less → is_lt a ≡ false
less_reversed a b e l = ap is_lt (e ∙ ap ordering_reverse l)

module _ {X : Type 0} (now : X → Label) where
  abbrev pub cmp : X → X → Ordering
  cmp x y = slice_cmp nat_cmp (now x) (now y)

  -- slices of equal order are equal
  equal : (x y : X) → cmp x y ≡ Equal → now x ≡ now y
  equal x y e = eq-from_same (now x) (now y) (tied (now x) (now y) e)

  total : IsTotalOrder cmp
  total = on_texts now

  -- what sorting and dropping duplicates keeps
  pub kept : (xs ys : List X) → IsPermutation xs ys → (p : Label) → In p (map now (dedup (λ x y. bytes_eq (now x) (now y)) ys)) ↔ In p (map now xs)
  kept xs ys perm p = (
    λ h.
        let r = In-from_map now p (dedup (λ x y. bytes_eq (now x) (now y)) ys) h in
        let c = Contains-permutation ys xs r.0 (IsPermutation-sym xs ys perm) (Contains-from_dedup (λ x y. bytes_eq (now x) (now y)) ys r.0 (Contains-from_In r.0 _ r.1)) in
        moved (now r.0) p (map now xs) r.2 (In-map now r.0 xs (In-from_Contains r.0 xs c)),
    λ h.
        let r = In-from_map now p xs h in
        let c = Any-dedup (on_texts_equal now) ys r.0 (Contains-permutation xs ys r.0 perm (Contains-from_In r.0 xs r.1)) in
        let i = In-from_Contains c.1 (dedup (λ x y. bytes_eq (now x) (now y)) ys) (c.0, c.2, c.3) in
        moved (now c.1) p (map now (dedup (λ x y. bytes_eq (now x) (now y)) ys)) (sym (tie (now r.0) (now c.1) c.4) ∙ r.2) (In-map now c.1 _ i),
  )

  pub strictly : (ys : List X) → IsSorted cmp ys → IsStrictlySortedBy cmp (dedup (λ x y. bytes_eq (now x) (now y)) ys)
  strictly ys s = IsStrictlySortedBy-dedup total (λ x y. texts_ties (now x) (now y)) ys s

  -- what is strictly sorted is sorted
  sorted : (xs : List X) → IsStrictlySortedBy cmp xs → IsSorted cmp xs
  unfolding IsStrictlySortedBy
  sorted [] h k d lo hi = absurd (omega (arith, hi))
  sorted (x ∷ []) h k d lo hi = absurd (omega (arith, hi))
  sorted (x ∷ (y ∷ xs)) h zero d lo hi = less_reversed (cmp y x) (cmp x y) (total.antisymm y x) h.0.0
  sorted (x ∷ (y ∷ xs)) h (suc k) d lo hi = let e : suc k + 1 ≡ suc (k + 1) = omega arith in rw e (sorted (y ∷ xs) h.1 k d (omega arith) (omega (arith, hi)))

  -- a binary search answers whether the label is there
  pub searched : (xs : List X) (x : X) (r : Result ℕ ℕ) → IsStrictlySortedBy cmp xs → IsSearchInRange r (length xs) → IsBinarySearchResult (λ y. cmp y x) xs r → is_ok r ≡ has (map now xs) (now x)
  searched xs x (Ok i) h range s =
      let e = equal (get_or xs i x) x (s x) in
      let c : Contains xs (get_or xs i x) = (i, range, at xs i x range) in
      sym (In-has (now x) (map now xs) (moved (now (get_or xs i x)) (now x) (map now xs) e (In-map now (get_or xs i x) xs (In-from_Contains (get_or xs i x) xs c))))
    where
      at : (xs : List X) (i : ℕ) (x : X) → i < length xs → get_or xs i (get_or xs i x) ≡ get_or xs i x
      at [] i x lt = absurd (omega (arith, lt))
      at (y ∷ xs) zero x lt = refl
      at (y ∷ xs) (suc i) x lt = at xs i x (omega (arith, lt))
  searched xs x (Err i) h range s =
      let point = s (searchable_from_sorted nat_list_cmp_total now xs (now x) (sorted xs h)) in
      elim (decide (has (map now xs) (now x))) [
        | inr f ↦ sym f
        | inl t ↦
            let r = In-from_map now (now x) xs (In-from_has (now x) (map now xs) t) in
            let c = Contains-from_In r.0 xs r.1 in
            let tie : cmp r.0 x ≡ Equal = ap (λ p. slice_cmp nat_cmp p (now x)) r.2 ∙ tied_itself nat_list_cmp_total (now x) in
            elim (cases_lt c.0 i) [
              | inl lt ↦ absurd (not_less (cmp r.0 x) (ap (λ y. cmp y x) (sym c.2) ∙ point.0 c.0 r.0 (omega arith) lt) tie)
              | inr le ↦ absurd (not_greater (cmp r.0 x) (ap (λ y. cmp y x) (sym c.2) ∙ point.1 c.0 r.0 le c.1) tie)
            ]
      ]
    where
      not_less : (o : Ordering) → o ≡ Less → o ≡ Equal → ⊥
      not_less o a b = cc

      not_greater : (o : Ordering) → o ≡ Greater → o ≡ Equal → ⊥
      not_greater o a b = cc

  later : (x : X) (xs : List X) → AllByRecursion (λ y. cmp x y ≡ Less) xs → (q : Label) → In q (map now xs) → comes_before (now x) q ≡ true
  later x [] h q i = absurd i
  later x (y ∷ xs) h q (inl e) = ap (comes_before (now x)) (sym e) ∙ comes_if_less (now x) (now y) h.0
  later x (y ∷ xs) h q (inr i) = later x xs h.1 q i

  pub ascends : (xs : List X) → IsStrictlySortedBy cmp xs → AreAscending (map now xs)
  unfolding IsStrictlySortedBy
  ascends [] h = tt
  ascends (x ∷ xs) h = (later x xs h.0, ascends xs h.1)
