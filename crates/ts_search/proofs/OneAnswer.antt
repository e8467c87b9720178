-- A search has one answer.
use Rattle.std.proofs.Common.{◌≡◌, ℕ, zero, suc, ◌≤◌, List, [], ◌∷◌, ◌++◌, map, length, take, refl, sym, ap, ◌∙◌, subst, arith, inl}
use Rattle.std.specs.List.{AllByRecursion}
use Rattle.ts_policy.specs.Labels.{Label, In}
use Rattle.ts_policy.proofs.Lists.{In-append_right}
use Rattle.ts_cert.specs.Certificate.{Certificate}
use Rattle.ts_path.specs.Asked.{TrustAnchor, ValidationInputs}
use Rattle.ts_path.specs.Verdict.{AreAccepted}
use Rattle.ts_path.proofs.OneVerdict.{one_accepted}
use Rattle.ts_search.specs.Candidates.{issues, IsCandidate}
use Rattle.ts_search.specs.Search.{Search, question, IsValidChain, NoneUnder, NoneOf, IsFirstChain, IsFirstUnder, Answers, IsSearchAnswer, IsSame, certificates_at, most}
use Rattle.ts_search.specs.declared.answer.SearchAnswer.{SearchAnswer}
use Rattle.ts_search.specs.declared.answer.SearchAnswer.TheVariants.{Found, NoPath, SearchLimit}
use Rattle.ts_search.proofs.Candidates.{in_all}
use Rattle.ts_search.proofs.Lengths.{triable}
use Rattle.ts_search.proofs.OneList.{one_candidates}

head_is : {X : Type 0} (x y : X) (xs ys : List X) → x ∷ xs ≡ y ∷ ys → x ≡ y
head_is x y xs ys e = cc

tail_is : {X : Type 0} (x y : X) (xs ys : List X) → x ∷ xs ≡ y ∷ ys → xs ≡ ys
tail_is x y xs ys e = cc

-- the first element of which Q holds, P holding of those before it, is one
firsts : {X : Type 0} (P Q : X → Type 0) → ((x : X) → P x → Q x → ⊥)
    → (xs ys zs ws : List X) (x y : X) → xs ++ x ∷ ys ≡ zs ++ y ∷ ws → AllByRecursion P xs → Q x
    → AllByRecursion P zs → Q y → (xs ≡ zs) × (x ≡ y)
firsts P Q clash [] ys [] ws x y e px qx py qy = (refl, head_is x y ys ws e)
firsts P Q clash [] ys (z ∷ zs) ws x y e px qx py qy = absurd (clash z py.0 (subst Q (head_is x z ys (zs ++ y ∷ ws) e) qx))
firsts P Q clash (z ∷ xs) ys [] ws x y e px qx py qy = absurd (clash z px.0 (subst Q (sym (head_is z y (xs ++ x ∷ ys) ws e)) qy))
firsts P Q clash (a ∷ xs) ys (b ∷ zs) ws x y e px qx py qy =
    let r = firsts P Q clash xs ys zs ws x y (tail_is a b (xs ++ x ∷ ys) (zs ++ y ∷ ws) e) px.1 qx py.1 qy in
    let h = head_is a b (xs ++ x ∷ ys) (zs ++ y ∷ ws) e in
    ((λ i. h i ∷ r.0 i), r.1)

in_middle : {X : Type 0} (xs ys : List X) (x : X) → In x (xs ++ x ∷ ys)
in_middle xs ys x = In-append_right x xs (x ∷ ys) (inl refl)

-- under none of the anchors, and yet under one
under_clash : (asked : TrustAnchor → ValidationInputs) (chain : List Certificate)
    (anchors : List TrustAnchor) (number : ℕ) (policies : List Label)
    → NoneUnder asked chain anchors → IsFirstUnder asked chain anchors number policies → ⊥
under_clash asked chain anchors number policies none f =
    let P : List TrustAnchor → Type 0 = λ xs. In f.anchor xs in
    in_all (λ anchor. ¬ (IsValidChain (question asked chain anchor))) anchors f.anchor none (subst P (sym f.anchors_are) (in_middle f.earlier f.later f.anchor)) f.valid

one_under : (asked : TrustAnchor → ValidationInputs) (chain : List Certificate)
    (anchors : List TrustAnchor) (n m : ℕ) (ps qs : List Label) → 1 ≤ length chain
    → IsFirstUnder asked chain anchors n ps → IsFirstUnder asked chain anchors m qs → (n ≡ m)
    × (ps ≡ qs)
one_under asked chain anchors n m ps qs some f h =
    let r = firsts (λ anchor. ¬ (IsValidChain (question asked chain anchor)))
    (λ anchor. IsValidChain (question asked chain anchor)) (λ x no yes. no yes) f.earlier
    f.later h.earlier h.later f.anchor h.anchor (sym f.anchors_are ∙ h.anchors_are)
    f.none_earlier f.valid h.none_earlier h.valid in
    let P : TrustAnchor → Type 0 = λ a. AreAccepted (question asked chain a) qs in
    (f.number_is ∙ (ap length r.0 ∙ sym h.number_is), one_accepted (question asked chain f.anchor) ps qs some f.accepted (subst P (sym r.1) h.accepted))

-- a chain that is valid under an anchor
IsGood : Search → List ℕ → Type 0
IsGood s chain = (number : ℕ) × (policies : List Label) × IsFirstUnder s.asked (certificates_at s.certificates chain) s.anchors number policies

one_first : (s : Search) (tried : List (List ℕ)) (n m : ℕ) (c d : List ℕ) (ps qs : List Label)
    → AllByRecursion (IsCandidate (issues s.certificates) (length s.certificates)) tried
    → IsFirstChain s tried n c ps → IsFirstChain s tried m d qs → (n ≡ m) × (c ≡ d) × (ps ≡ qs)
unfolding IsGood
one_first s tried n m c d ps qs are f h =
    let r = firsts (λ chain. NoneUnder s.asked (certificates_at s.certificates chain) s.anchors)
    (IsGood s) (λ x none good. under_clash s.asked (certificates_at s.certificates x) s.anchors
    good.0 good.1 none good.2)
    f.before f.after h.before h.after c d (sym f.tried_are ∙ h.tried_are) f.none_before (n, ps, f.under) h.none_before (m, qs, h.under) in
    let P : List (List ℕ) → Type 0 = λ xs. In c xs in
    let some = triable s.certificates c (in_all (IsCandidate (issues s.certificates) (length s.certificates)) tried c are (subst P (sym f.tried_are) (in_middle f.before f.after c))) in
    let Q : List ℕ → Type 0 = λ x. IsFirstUnder s.asked (certificates_at s.certificates x) s.anchors m qs in
    let u = one_under s.asked (certificates_at s.certificates c) s.anchors n m ps qs some.0 f.under (subst Q (sym r.1) h.under) in
    (u.0, r.1, u.1)

-- a chain that is first is among those of which none is
first_clash : (s : Search) (tried : List (List ℕ)) (n : ℕ) (c : List ℕ) (ps : List Label) → IsFirstChain s tried n c ps → NoneOf s tried → ⊥
first_clash s tried n c ps f none =
    let P : List (List ℕ) → Type 0 = λ xs. In c xs in
    under_clash s.asked (certificates_at s.certificates c) s.anchors n ps
    (in_all (λ chain. NoneUnder s.asked (certificates_at s.certificates chain) s.anchors) tried c none (subst P (sym f.tried_are) (in_middle f.before f.after c))) f.under

front : {X : Type 0} (P : X → Type 0) (n : ℕ) (xs : List X) → AllByRecursion P xs → AllByRecursion P (take n xs)
front P zero xs h = tt
front P (suc n) [] h = tt
front P (suc n) (x ∷ xs) h = (h.0, front P n xs h.1)

same : (s : Search) (cs : List (List ℕ)) → AllByRecursion (IsCandidate (issues s.certificates) (length s.certificates)) cs → (a b : SearchAnswer) → Answers s cs a → Answers s cs b → IsSame a b
same s cs are (Found n c ps) (Found m d qs) h k =
    one_first s (take most cs) n m c.items d.items (map (λ p. p.content.now) ps.items)
    (map (λ p. p.content.now) qs.items)
    (front (IsCandidate (issues s.certificates) (length s.certificates)) most cs are) h k
same s cs are (Found n c ps) NoPath h k = first_clash s (take most cs) n c.items (map (λ p. p.content.now) ps.items) h (front _ most cs k.1)
same s cs are (Found n c ps) SearchLimit h k = first_clash s (take most cs) n c.items (map (λ p. p.content.now) ps.items) h k.1
same s cs are NoPath (Found m d qs) h k = first_clash s (take most cs) m d.items (map (λ p. p.content.now) qs.items) k (front _ most cs h.1)
same s cs are NoPath NoPath h k = tt
same s cs are NoPath SearchLimit h k = absurd (omega (arith, h.0, k.0))
same s cs are SearchLimit (Found m d qs) h k = first_clash s (take most cs) m d.items (map (λ p. p.content.now) qs.items) k h.1
same s cs are SearchLimit NoPath h k = absurd (omega (arith, h.0, k.0))
same s cs are SearchLimit SearchLimit h k = tt

pub one_answer : (s : Search) (a b : SearchAnswer) → IsSearchAnswer s a → IsSearchAnswer s b → IsSame a b
one_answer s a b h k =
    let e = one_candidates (issues s.certificates) (length s.certificates) k.candidates h.candidates k.are_candidates h.are_candidates in
    let P : List (List ℕ) → Type 0 = λ cs. Answers s cs b in
    same s h.candidates h.are_candidates.only a b h.answers (subst P e k.answers)
