-- The chains made level by level are all candidates, in order.
use Rattle.std.proofs.Common.{◌≡◌, ℕ, zero, suc, ◌+◌, ◌-◌, ◌<◌, ◌≤◌, inl, inr, Bool, true, false}
use Rattle.std.proofs.Common.{cond, not, ◌==◌, List, [], ◌∷◌, ◌++◌, map, filter, flat_map, length}
use Rattle.std.proofs.Common.{refl, sym, ap, ◌∙◌, subst, arith, true≢false}
use Rattle.std.specs.List.{list_any, AllByRecursion, range_with_len}
use Rattle.std.proofs.Math.Nat.{eq-or-lt_of_le}
use Rattle.ts_policy.specs.Labels.{In}
use Rattle.ts_search.specs.Candidates.{AreLinked, AreDistinct, EndsAtLeaf, IsCandidate, IsLesser, IsEarlier, AreInOrder, AreCandidates}
use Rattle.ts_search.specs.inside.Levels.{row_at, top_row, is_new, longer, level, chains, AreRows}
use Rattle.ts_policy.proofs.Lists.{In-append_left, In-append_right, In-append_cases, In-map, In-from_map, In-filter, In-from_filter, In-flat_map, In-from_flat_map}

-- ---- lists

pub all_of : {X : Type 0} (P : X → Type 0) (xs : List X) → ((x : X) → In x xs → P x) → AllByRecursion P xs
all_of P [] h = tt
all_of P (x ∷ xs) h = (h x (inl refl), all_of P xs (λ y i. h y (inr i)))

pub in_all : {X : Type 0} (P : X → Type 0) (xs : List X) (x : X) → AllByRecursion P xs → In x xs → P x
in_all P [] x h i = absurd i
in_all P (y ∷ xs) x h (inl e) = subst P e h.0
in_all P (y ∷ xs) x h (inr i) = in_all P xs x h.1 i

-- each before all after it
abbrev AreOrdered : {X : Type 0} → (X → X → Type 0) → List X → Type 0
AreOrdered R [] = Unit {0}
AreOrdered R (x ∷ xs) = AllByRecursion (R x) xs × AreOrdered R xs

ordered_append : {X : Type 0} (R : X → X → Type 0) (xs ys : List X) → AreOrdered R xs → AreOrdered R ys → ((x y : X) → In x xs → In y ys → R x y) → AreOrdered R (xs ++ ys)
ordered_append R [] ys hx hy h = hy
ordered_append R (x ∷ xs) ys hx hy h = (
  all_of (R x) (xs ++ ys) (λ y i. elim (In-append_cases y xs ys i) [ inl a ↦ in_all (R x) xs y hx.0 a | inr b ↦ h x y (inl refl) b ]),
  ordered_append R xs ys hx.1 hy (λ a b i j. h a b (inr i) j),
)

ordered_map : {X Y : Type 0} (R : X → X → Type 0) (S : Y → Y → Type 0) (f : X → Y) (xs : List X) → ((x y : X) → R x y → S (f x) (f y)) → AreOrdered R xs → AreOrdered S (map f xs)
ordered_map R S f [] h o = tt
ordered_map {X} {Y} R S f (x ∷ xs) h o = (
  all_of (S (f x)) (map f xs) (λ y i. let w = In-from_map f y xs i in let P : Y → Type 0 = λ z. S (f x) z in subst P w.2 (h x w.0 (in_all (R x) xs w.0 o.0 w.1))),
  ordered_map R S f xs h o.1,
)

ordered_filter : {X : Type 0} (R : X → X → Type 0) (p : X → Bool) (xs : List X) → AreOrdered R xs → AreOrdered R (filter p xs)
ordered_filter R p [] o = tt
ordered_filter {X} R p (x ∷ xs) o =
    elim (p x) as (λ b. AreOrdered R (cond b (x ∷ filter p xs) (filter p xs))) [
      | true ↦ (all_of (R x) (filter p xs) (λ y i. in_all (R x) xs y o.0 (In-from_filter p y xs i).0), ordered_filter R p xs o.1)
      | false ↦ ordered_filter R p xs o.1
    ]

ordered_flat_map : {X Y : Type 0} (R : X → X → Type 0) (S : Y → Y → Type 0) (f : X → List Y)
    (xs : List X) → ((x : X) → In x xs → AreOrdered S (f x))
    → ((x z : X) (y w : Y) → In x xs → In z xs → R x z → In y (f x) → In w (f z) → S y w)
    → AreOrdered R xs → AreOrdered S (flat_map f xs)
ordered_flat_map R S f [] each h o = tt
ordered_flat_map R S f (x ∷ xs) each h o =
    ordered_append S (f x) (flat_map f xs) (each x (inl refl)) (ordered_flat_map R S f xs (λ a i. each a (inr i)) (λ a b y w i j. h a b y w (inr i) (inr j)) o.1)
    (λ y w i j. let z = In-from_flat_map f w xs j in h x z.0 y w (inl refl) (inr z.1) (in_all (R x) xs z.0 o.0 z.1) i z.2)

-- ---- numbers in order

in_range : (a n i : ℕ) → In i (range_with_len a n) → (a ≤ i) × (i < a + n)
in_range a zero i h = absurd h
in_range a (suc n) i (inl e) = (omega arith, omega arith)
in_range a (suc n) i (inr h) = let r = in_range (a + 1) n i h in (omega (arith, r.0), omega (arith, r.1))

range_has : (a n i : ℕ) → a ≤ i → i < a + n → In i (range_with_len a n)
range_has a zero i h l = absurd (omega arith)
range_has a (suc n) i h l = elim (eq-or-lt_of_le h) [ inl e ↦ inl e | inr m ↦ inr (range_has (a + 1) n i (omega (arith, m)) (omega arith)) ]

range_ordered : (a n : ℕ) → AreOrdered (λ i j. i < j) (range_with_len a n)
range_ordered a zero = tt
range_ordered a (suc n) = (all_of (λ j. a < j) (range_with_len (a + 1) n) (λ j h. let r = in_range (a + 1) n j h in omega (arith, r.0)), range_ordered (a + 1) n)

-- ---- chains

-- a candidate of any length
record IsChain (issues : ℕ → ℕ → Bool) (count : ℕ) (c : List ℕ) : Type 0 where
  pub within : AllByRecursion (λ i. i < count) c
  pub distinct : AreDistinct c
  pub leaf : EndsAtLeaf c
  pub linked : AreLinked issues c

to_chain : (issues : ℕ → ℕ → Bool) (count : ℕ) (c : List ℕ) → IsCandidate issues count c → IsChain issues count c
to_chain issues count c h = record { within = h.within; distinct = h.distinct; leaf = h.leaf; linked = h.linked }

to_candidate : (issues : ℕ → ℕ → Bool) (count : ℕ) (c : List ℕ) → length c ≤ 10 → IsChain issues count c → IsCandidate issues count c
to_candidate issues count c few h = record { few = few; within = h.within; distinct = h.distinct; leaf = h.leaf; linked = h.linked }

is_not : (b : Bool) → not b ≡ true → b ≡ false
is_not true h = absurd (true≢false (sym h))
is_not false h = refl

not_is : (b : Bool) → b ≡ false → not b ≡ true
not_is b e = ap not e

module _ (issues : ℕ → ℕ → Bool) (count : ℕ) (rows : List (List ℕ)) (some : 0 < count) (are_rows : AreRows issues count rows) where
  -- what is in the row of a place
  from_row : (i j : ℕ) → i < count → In j (row_at rows i) → (j < count) × (issues j i ≡ true)
  from_row i j h m =
      let P : List ℕ → Type 0 = λ r. In j r in
      let f = In-from_filter (λ k. issues k i) j (range_with_len 0 count) (subst P (are_rows i h) m) in
      let r = in_range 0 count j f.0 in
      (omega (arith, r.1), f.1)

  to_row : (i j : ℕ) → i < count → j < count → issues j i ≡ true → In j (row_at rows i)
  to_row i j h l e =
      let P : List ℕ → Type 0 = λ r. In j r in
      subst P (sym (are_rows i h)) (In-filter (λ k. issues k i) j (range_with_len 0 count) (range_has 0 count j (omega arith) (omega (arith, l))) e)

  -- one certificate more
  from_longer : (b c : List ℕ) → In c (longer rows b) → (i : ℕ) × (c ≡ i ∷ b) × In i (top_row rows b) × (list_any (λ j. j == i) b ≡ false)
  unfolding longer
  from_longer b c h =
      let m = In-from_map (λ i. i ∷ b) c (filter (is_new b) (top_row rows b)) h in
      let f = In-from_filter (is_new b) m.0 (top_row rows b) m.1 in
      (m.0, sym m.2, f.0, is_not _ f.1)

  to_longer : (b : List ℕ) (i : ℕ) → In i (top_row rows b) → list_any (λ j. j == i) b ≡ false → In (i ∷ b) (longer rows b)
  unfolding longer
  to_longer b i h e = In-map (λ i. i ∷ b) i (filter (is_new b) (top_row rows b)) (In-filter (is_new b) i (top_row rows b) h (not_is _ e))

  one_more : (b : List ℕ) (i : ℕ) → IsChain issues count b → In i (top_row rows b) → list_any (λ j. j == i) b ≡ false → IsChain issues count (i ∷ b)
  one_more [] i h m e = absurd m
  one_more (j ∷ b) i h m e =
      let r = from_row j i h.within.0 m in
      record { within = (r.0, h.within); distinct = (e, h.distinct); leaf = h.leaf; linked = (r.1, h.linked) }

  -- the chains of a level are chains, of its length
  sound : (n : ℕ) (c : List ℕ) → In c (level rows n) → IsChain issues count c × (length c ≡ suc n)
  unfolding level
  sound zero c (inl e) =
      let P : List ℕ → Type 0 = λ c. IsChain issues count c × (length c ≡ 1) in
      subst P e (record { within = (some, tt); distinct = (refl, tt); leaf = refl; linked = tt }, refl)
  sound zero c (inr h) = absurd h
  sound (suc n) c h =
      let b = In-from_flat_map (longer rows) c (level rows n) h in
      let m = from_longer b.0 c b.2 in
      let k = sound n b.0 b.1 in
      let P : List ℕ → Type 0 = λ c. IsChain issues count c × (length c ≡ suc (suc n)) in
      subst P (sym m.1) (one_more b.0 m.0 k.0 m.2 m.3, ap suc k.1)

  -- each chain is in the level of its length
  complete : (n : ℕ) (c : List ℕ) → IsChain issues count c → length c ≡ suc n → In c (level rows n)
  unfolding level
  complete n [] h e = absurd h.leaf
  complete zero (i ∷ []) h e = inl (ap (λ j. j ∷ []) (sym h.leaf))
  complete (suc n) (i ∷ []) h e = absurd (omega (arith, e))
  complete zero (i ∷ j ∷ b) h e = absurd (omega (arith, e))
  complete (suc n) (i ∷ j ∷ b) h e =
      let below : IsChain issues count (j ∷ b) = record { within = h.within.1; distinct = h.distinct.1; leaf = h.leaf; linked = h.linked.1 } in
      In-flat_map (longer rows) (j ∷ b) (i ∷ j ∷ b) (level rows n) (complete n (j ∷ b) below (omega (arith, e)))
      (to_longer (j ∷ b) i (to_row j i h.within.1.0 h.within.0 h.linked.0) h.distinct.0)

  -- ---- their order

  rows_ordered : (b : List ℕ) → IsChain issues count b → AreOrdered (λ i j. i < j) (top_row rows b)
  rows_ordered [] h = tt
  rows_ordered (i ∷ b) h =
      let P : List ℕ → Type 0 = λ r. AreOrdered (λ i j. i < j) r in
      subst P (sym (are_rows i h.within.0)) (ordered_filter (λ i j. i < j) (λ k. issues k i) (range_with_len 0 count) (range_ordered 0 count))

  longer_ordered : (b : List ℕ) → IsChain issues count b → AreOrdered IsLesser (longer rows b)
  unfolding longer
  longer_ordered b h =
      ordered_map (λ i j. i < j) IsLesser (λ i. i ∷ b) (filter (is_new b) (top_row rows b)) (λ i j l. inr (refl, l))
      (ordered_filter (λ i j. i < j) (is_new b) (top_row rows b) (rows_ordered b h))

  above_below : (b d c e : List ℕ) → IsLesser b d → In c (longer rows b) → In e (longer rows d) → IsLesser c e
  above_below b d c e l i j =
      let m = from_longer b c i in
      let w = from_longer d e j in
      let P : List ℕ → Type 0 = λ x. IsLesser x e in
      let Q : List ℕ → Type 0 = λ y. IsLesser (m.0 ∷ b) y in
      subst P (sym m.1) (subst Q (sym w.1) (inl l))

  level_ordered : (n : ℕ) → AreOrdered IsLesser (level rows n)
  unfolding level
  level_ordered zero = (tt, tt)
  level_ordered (suc n) = ordered_flat_map IsLesser IsLesser (longer rows) (level rows n) (λ b i. longer_ordered b (sound n b i).0) (λ b d c e i j l k m. above_below b d c e l k m) (level_ordered n)

  -- chains of one length in order
  of_one_length : (n : ℕ) (cs : List (List ℕ)) → ((c : List ℕ) → In c cs → length c ≡ n) → AreOrdered IsLesser cs → AreInOrder cs
  of_one_length n [] h o = tt
  of_one_length n (c ∷ cs) h o = (
    all_of (IsEarlier c) cs (λ d i. inr (h c (inl refl) ∙ sym (h d (inr i)), in_all (IsLesser c) cs d o.0 i)),
    of_one_length n cs (λ d i. h d (inr i)) o.1,
  )

  in_order_append : (cs ds : List (List ℕ)) → AreInOrder cs → AreInOrder ds → ((c d : List ℕ) → In c cs → In d ds → IsEarlier c d) → AreInOrder (cs ++ ds)
  in_order_append [] ds hc hd h = hd
  in_order_append (c ∷ cs) ds hc hd h = (
    all_of (IsEarlier c) (cs ++ ds) (λ d i. elim (In-append_cases d cs ds i) [ inl a ↦ in_all (IsEarlier c) cs d hc.0 a | inr b ↦ h c d (inl refl) b ]),
    in_order_append cs ds hc.1 hd (λ a b i j. h a b (inr i) j),
  )

  -- the chains below a length
  shorter : (n : ℕ) (c : List ℕ) → In c (chains rows n) → IsChain issues count c × (length c ≤ n)
  unfolding chains
  shorter zero c h = absurd h
  shorter (suc n) c h =
      elim (In-append_cases c (chains rows n) (level rows n) h) [
        | inl a ↦ let s = shorter n c a in (s.0, omega (arith, s.1))
        | inr b ↦ let s = sound n c b in (s.0, omega (arith, s.1))
      ]

  has_length : (c : List ℕ) → IsChain issues count c → 0 < length c
  has_length [] h = absurd h.leaf
  has_length (i ∷ c) h = omega arith

  in_chains : (n m : ℕ) (c : List ℕ) → IsChain issues count c → length c ≡ suc m → m < n → In c (chains rows n)
  unfolding chains
  in_chains zero m c h e l = absurd (omega (arith, l))
  in_chains (suc n) m c h e l =
      elim (eq-or-lt_of_le l) [
        | inl s ↦ In-append_right c (chains rows n) (level rows n) (complete n c h (omega (arith, e, s)))
        | inr k ↦ In-append_left c (chains rows n) (level rows n) (in_chains n m c h e (omega (arith, k)))
      ]

  chains_ordered : (n : ℕ) → AreInOrder (chains rows n)
  unfolding chains
  chains_ordered zero = tt
  chains_ordered (suc n) =
      in_order_append (chains rows n) (level rows n) (chains_ordered n) (of_one_length (suc n) (level rows n) (λ c i. (sound n c i).1) (level_ordered n))
      (λ c d i j. let s = shorter n c i in let k = sound n d j in inl (omega (arith, s.1, k.1)))

  pub are_candidates : AreCandidates issues count (chains rows 10)
  are_candidates = record {
    ordered = chains_ordered 10;
    only = all_of (IsCandidate issues count) (chains rows 10) (λ c i. let s = shorter 10 c i in to_candidate issues count c s.1 s.0);
    all = λ c h. let k = has_length c (to_chain issues count c h) in in_chains 10 (length c - 1) c (to_chain issues count c h) (omega (arith, k)) (omega (arith, k, h.few));
  }
