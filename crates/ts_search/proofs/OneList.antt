-- The candidates in their order are one list.
use Rattle.std.proofs.Common.{◌≡◌, ℕ, inl, inr, Bool, List, [], ◌∷◌, refl, sym, ◌∙◌, subst, arith}
use Rattle.std.specs.List.{AllByRecursion}
use Rattle.ts_policy.specs.Labels.{In}
use Rattle.ts_search.specs.Candidates.{IsCandidate, IsLesser, IsEarlier, AreInOrder, AreCandidates}
use Rattle.ts_search.proofs.Candidates.{in_all}

below_self : (c : List ℕ) → IsLesser c c → ⊥
below_self [] h = h
below_self (i ∷ c) (inl h) = below_self c h
below_self (i ∷ c) (inr h) = absurd (omega (arith, h.1))

below_not : (c d : List ℕ) → IsLesser c d → IsLesser d c → ⊥
below_not [] d h k = h
below_not (i ∷ c) [] h k = h
below_not (i ∷ c) (j ∷ d) (inl h) (inl k) = below_not c d h k
below_not (i ∷ c) (j ∷ d) (inl h) (inr k) = let P : List ℕ → Type 0 = λ x. IsLesser c x in below_self c (subst P k.0 h)
below_not (i ∷ c) (j ∷ d) (inr h) (inl k) = let P : List ℕ → Type 0 = λ x. IsLesser d x in below_self d (subst P h.0 k)
below_not (i ∷ c) (j ∷ d) (inr h) (inr k) = absurd (omega (arith, h.1, k.1))

precedes_not : (c d : List ℕ) → IsEarlier c d → IsEarlier d c → ⊥
precedes_not c d (inl h) (inl k) = absurd (omega (arith, h, k))
precedes_not c d (inl h) (inr k) = absurd (omega (arith, h, k.0))
precedes_not c d (inr h) (inl k) = absurd (omega (arith, h.0, k))
precedes_not c d (inr h) (inr k) = below_not c d h.1 k.1

-- of two lists in order with the same elements the first elements are one
heads : (c d : List ℕ) (cs ds : List (List ℕ)) → AllByRecursion (IsEarlier c) cs → AllByRecursion (IsEarlier d) ds → In c (d ∷ ds) → In d (c ∷ cs) → c ≡ d
heads c d cs ds hc hd (inl e) j = sym e
heads c d cs ds hc hd (inr i) (inl e) = e
heads c d cs ds hc hd (inr i) (inr j) = absurd (precedes_not d c (in_all (IsEarlier d) ds c hd i) (in_all (IsEarlier c) cs d hc j))

-- an element after is not the first
behind : (c d x : List ℕ) (cs ds : List (List ℕ)) → c ≡ d → AllByRecursion (IsEarlier c) cs → In x cs → In x (d ∷ ds) → In x ds
behind c d x cs ds e h i (inl f) =
    let P : List ℕ → Type 0 = λ y. IsEarlier c y in
    let q = subst P (sym (e ∙ f)) (in_all (IsEarlier c) cs x h i) in
    absurd (precedes_not c c q q)
behind c d x cs ds e h i (inr k) = k

pub one_list : (cs ds : List (List ℕ)) → AreInOrder cs → AreInOrder ds → ((x : List ℕ) → In x cs → In x ds) → ((x : List ℕ) → In x ds → In x cs) → cs ≡ ds
one_list [] [] oc od f g = refl
one_list [] (d ∷ ds) oc od f g = absurd (g d (inl refl))
one_list (c ∷ cs) [] oc od f g = absurd (f c (inl refl))
one_list (c ∷ cs) (d ∷ ds) oc od f g =
    let e = heads c d cs ds oc.0 od.0 (f c (inl refl)) (g d (inl refl)) in
    let tails = one_list cs ds oc.1 od.1 (λ x i. behind c d x cs ds e oc.0 i (f x (inr i))) (λ x i. behind d c x ds cs (sym e) od.0 i (g x (inr i))) in
    λ i. e i ∷ tails i

pub one_candidates : (issues : ℕ → ℕ → Bool) (count : ℕ) (cs ds : List (List ℕ)) → AreCandidates issues count cs → AreCandidates issues count ds → cs ≡ ds
one_candidates issues count cs ds h k =
    one_list cs ds h.ordered k.ordered
    (λ x i. k.all x (in_all (IsCandidate issues count) cs x h.only i))
    (λ x i. h.all x (in_all (IsCandidate issues count) ds x k.only i))
