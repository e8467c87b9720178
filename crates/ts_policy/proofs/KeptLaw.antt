-- Each call keeps what stands for the certificates, over plain lists.
use Rattle.std.proofs.Common.{ne_eqb, ◌&&◌, not, ◌≡◌, ◌↔◌, ◌<◌, ◌≤◌, ◌-◌, ℕ, suc, Bool, true, false}
use Rattle.std.proofs.Common.{cond, List, [], ◌∷◌, ◌++◌, map, filter, MatchBool, IsTrue, ◌||◌, refl}
use Rattle.std.proofs.Common.{sym, ap, ◌∙◌, subst, inl, inr, ◌⊎◌, true≢false, append_assoc, length}
use Rattle.std.proofs.Common.{take, get_or, take-suc, arith, ◌==◌, take_all, le_refl}
use Rattle.std.proofs.lemmas.Bool.{eqb-false}
use Rattle.ts_policy.specs.Labels.{Label, any_policy, same, In, has, anys}
use Rattle.ts_policy.specs.Paths.{CertPolicies, expected_after, expected, count, InS, InT, MapsNoAny}
use Rattle.ts_policy.specs.inside.Layers.{Layer, has_label, HoldPaths, AreExpectations, IsNext, newest, is_over, chosen, firsts, tops, is_top, above_alive}
use Rattle.ts_der.specs.declared.oid.OidRef.{OidRef}
use Rattle.ts_policy.specs.declared.layer.Link.{Link}
use Rattle.ts_policy.specs.inside.Links.{AreMapped, link_in}
use Rattle.ts_policy.specs.Certificates.{maps_any}
use Rattle.ts_policy.specs.inside.Kept.{Stand}
use Rattle.ts_policy.proofs.Same.{same-eq, same-ne}
use Rattle.ts_policy.proofs.Views.{filter_alike, has_alike, map_map, map_filter}
use Rattle.ts_policy.proofs.Lists.{if_true, if_false, passes, passer, decide, clash, In-append_left, In-append_right, In-append_cases, In-filter, In-from_filter, In-has, In-from_has, along}
use Rattle.ts_policy.specs.Accepted.{IsFirstOf, IsAccepted, is_none}
use Rattle.ts_policy.proofs.LayerLaw.{reach, ends, firsts_are, free_is, next_holds, mapped_holds, expectations_are}
use Rattle.ts_policy.proofs.TreeLaw.{any_policy-from_expected}

pub newest-push : {X Y : Type 0} (f : X → Y) (rest : List Y) (xs : List X) (x : X) → newest f rest (xs ++ (x ∷ [])) ≡ f x ∷ newest f rest xs
newest-push f rest [] x = refl
newest-push f rest (y ∷ xs) x = newest-push f (f y ∷ rest) xs x

any_to : (cs : List CertPolicies) → In any_policy (expected cs any_policy)
any_to [] = inl refl
any_to (c ∷ cs) = along any_policy _ _ (sym (if_true (same any_policy any_policy) (any_policy ∷ []) _ (same-eq any_policy any_policy refl))) (inl refl)

not_nil : (c : CertPolicies) (cs : List CertPolicies) → c ∷ cs ≡ [] → ⊥
not_nil c cs e = cc

pub stand_start : (pairs : Layer) → pairs ≡ (any_policy, any_policy) ∷ [] → Stand [] true [] pairs
stand_start pairs is = record {
  holds = record { walks = λ w. (λ h. h, λ h. h); grounded = tt };
  long = refl;
  expectations_are = λ _ p q. (
    λ h. elim (along (p, q) _ _ is h) [ inl e ↦ (ap (λ x. x.1) (sym e), inl (ap (λ x. x.1) (sym e) ∙ ap (λ x. x.0) e)) | inr f ↦ absurd f ],
    λ h. elim h.1 [
      | inl e ↦
          along (p, q) _ _ (sym is)
          (inl (let pair : Label → Label → Label × Label = λ a b. (a, b) in
          ap (λ a. pair a any_policy) (sym h.0 ∙ e) ∙ ap (pair p) (sym h.0)))
      | inr f ↦ absurd f
    ],
  );
  begun = λ e. absurd (true≢false e);
  any_from = λ _ q h. elim h [ inl e ↦ e | inr f ↦ absurd f ];
}

pub stand_taken : (cs : List CertPolicies) (ls : List Layer) (ws ws' : Layer) (c : CertPolicies) (l : Layer) → IsNext c ws l → Stand cs true ls ws → Stand (c ∷ cs) false (l ∷ ls) ws'
stand_taken cs ls ws ws' c l n s =
    let P : Layer → Type 0 = λ l. Stand (c ∷ cs) false (l ∷ ls) ws' in
    subst P (sym n.is) record {
      holds = next_holds c (expected cs) (InS cs) ls ws n.list n.alike s.holds (s.expectations_are refl) (s.any_from refl) (any_to cs);
      long = ap suc s.long;
      expectations_are = λ e. absurd (true≢false (sym e));
      begun = λ _. not_nil c cs;
      any_from = λ e. absurd (true≢false (sym e));
    }

-- the layers after the mappings, which take the latest off and put the mapped one back
pub stand_mapped : (cs : List CertPolicies) (c : CertPolicies) (l l' : Layer) (ls : List Layer)
    (ws ws' : Layer) → MapsNoAny c → AreMapped c l l' ws' → Stand (c ∷ cs) false (l ∷ ls) ws
    → Stand (c ∷ cs) true (l' ∷ ls) ws'
stand_mapped cs c l l' ls ws ws' fine m s =
    let e = m.expectations in
    let P : Layer → Type 0 = λ l. HoldPaths (InS (c ∷ cs)) (l ∷ ls) in
    let Q : Layer → Type 0 = λ ws. AreExpectations (expected_after c) (l' ∷ ls) ws in
    record {
      holds = subst P (sym m.layer) (mapped_holds c fine (count cs) (InT (c ∷ cs)) l ls (suc_inj s.long) s.holds);
      long = s.long;
      expectations_are = λ _. subst Q (sym e.2.2) (expectations_are c fine l' ls e.0 e.2.0 e.1 e.2.1);
      begun = λ h. absurd (true≢false h);
      any_from = λ _. any_policy-from_expected c fine;
    }
  where
    suc_inj : {m n : ℕ} → suc m ≡ suc n → m ≡ n
    suc_inj e = omega (arith, e)

-- the first labels ask of a list only what it has
firsts_alike : (ls : List Layer) (xs ys : List Label) → ((p : Label) → has xs p ≡ has ys p) → firsts ls xs ≡ firsts ls ys
firsts_alike [] xs ys h = refl
firsts_alike (l ∷ ls) xs ys h =
    let ups : List Label → List Label = λ xs. above_alive l xs in
    let tops_alike : tops l xs ≡ tops l ys =
    ap (map (λ x. x.0)) (filter_alike (λ x. is_top xs x) (λ x. is_top ys x)
    (λ x. ap (λ b. b && (same x.1 any_policy && not (same x.0 any_policy))) (h x.0)) l) in
    let ups_alike : ups xs ≡ ups ys = ap (map (λ x. x.1)) (filter_alike (λ x. has xs x.0) (λ x. has ys x.0) (λ x. h x.0) l) in
    ap (λ ts. ts ++ firsts ls (ups xs)) tops_alike ∙ ap (λ us. tops l ys ++ firsts ls us) ups_alike

-- one turn of the way up
pub firsts_turn : {X : Type 0} (f : X → Layer) (xs : List X) (i : ℕ) (x : X) (alive alive' more found : List Label) (all : List Label) → 0 < i → i ≤ length xs → x ≡ get_or xs (i - 1) x
    → more ≡ tops (f x) alive → ((p : Label) → In p alive' ↔ In p (above_alive (f x) alive)) → found ++ firsts (newest f [] (take i xs)) alive ≡ all
    → (found ++ more) ++ firsts (newest f [] (take (i - 1) xs)) alive' ≡ all
firsts_turn f xs i x alive alive' more found all pos le is e a h =
    append_assoc found more _
    ∙ ap (λ m. found ++ (m ++ firsts (newest f [] (take (i - 1) xs)) alive')) e
    ∙ ap (λ zs. found ++ (tops (f x) alive ++ zs)) (firsts_alike (newest f [] (take (i - 1) xs)) alive' (above_alive (f x) alive) (has_alike alive' (above_alive (f x) alive) a))
    ∙ ap (λ zs. found ++ firsts zs alive) (sym (newest-push f [] (take (i - 1) xs) x))
    ∙ ap (λ zs. found ++ firsts (newest f [] zs) alive)
    (ap (λ y. take (i - 1) xs ++ (y ∷ [])) is
    ∙ sym (take-suc xs (i - 1) x (let lt : i - 1 < length xs = omega arith in lt))
    ∙ ap (λ n. take n xs) (let back : suc (i - 1) ≡ i = omega arith in back))
    ∙ h

-- no label is left exactly where there is no path
pub over_is : (S : List Label → Type 0) (ls : List Layer) → HoldPaths S ls → IsTrue (is_over ls) ↔ ((w : List Label) → S w → ⊥)
over_is S [] h = (λ e. absurd (true≢false (sym e)), λ none. absurd (none [] ((h.walks []).0 refl)))
over_is S ([] ∷ ls) h = (λ _ w s. elim (true≢false (sym (ends ([] ∷ ls) w ((h.walks w).1 s)))) [ ], λ _. refl)
over_is S ((x ∷ l) ∷ ls) h = (
  λ e. absurd (true≢false (sym e)),
  λ none.
      let r = reach ((x ∷ l) ∷ ls) h.grounded x.0 (ap (λ b. b || has_label l x.0) (same-eq x.0 x.0 refl)) in
      absurd (none r.0 ((h.walks r.0).0 r.1)),
)

chosen-is : (found : List Label) (free : Bool) (user : List Label) (p : Label) →
    In p (chosen found free user) ↔ MatchBool (is_none user || has user any_policy) (In p found ⊎ ((p ≡ any_policy) × IsTrue free)) (In p user × (IsTrue free ⊎ In p found))
chosen-is found free user p =
    elim (is_none user || has user any_policy) as (λ b.
    In p (cond b (cond free (found ++ (any_policy ∷ [])) found)
    (cond free user (filter (λ p. has found p) user))) ↔ MatchBool b
    (In p found ⊎ ((p ≡ any_policy) × IsTrue free)) (In p user × (IsTrue free ⊎ In p found))) [
      | true ↦ elim free as (λ f. In p (cond f (found ++ (any_policy ∷ [])) found) ↔ (In p found ⊎ ((p ≡ any_policy) × IsTrue f))) [
        | true ↦ (
          λ i. elim (In-append_cases p found (any_policy ∷ []) i) [ inl a ↦ inl a | inr b ↦ elim b [ inl e ↦ inr (sym e, refl) | inr n ↦ absurd n ] ],
          λ h. elim h [ inl a ↦ In-append_left p found _ a | inr b ↦ In-append_right p found _ (inl (sym b.0)) ],
        )
        | false ↦ (λ i. inl i, λ h. elim h [ inl a ↦ a | inr b ↦ absurd (true≢false (sym b.1)) ])
      ]
      | false ↦ elim free as (λ f. In p (cond f user (filter (λ p. has found p) user)) ↔ (In p user × (IsTrue f ⊎ In p found))) [
        | true ↦ (λ i. (i, inl refl), λ h. h.0)
        | false ↦ (
          λ i. let r = In-from_filter (λ p. has found p) p user i in (r.0, inr (In-from_has p found r.1)),
          λ h. elim h.1 [ inl e ↦ absurd (true≢false (sym e)) | inr i ↦ In-filter (λ p. has found p) p user h.0 (In-has p found i) ],
        )
      ]
    ]

choice : (b : Bool) (A A' B B' : Type 0) → (A ↔ A') → (B ↔ B') → MatchBool b A B ↔ MatchBool b A' B'
choice true A A' B B' f g = f
choice false A A' B B' f g = g

-- the accepted policies, by the layers
pub accepted_is : (cs : List CertPolicies) (l : Layer) (ls : List Layer) (ws : Layer)
    (alive user : List Label) → Stand cs false (l ∷ ls) ws
    → ((p : Label) → has alive p ≡ has_label l p) → (p : Label) →
    In p (chosen (firsts (l ∷ ls) alive) (has_label l any_policy) user) ↔ IsAccepted (count cs) (InT cs) user p
accepted_is cs l ls ws alive user s h p =
    let T : List Label → Type 0 = InT cs in
    let found = firsts_are T l ls s.holds alive h p in
    let A : ℕ → Type 0 = λ n. (has_label l any_policy ≡ true) ↔ T (anys n) in
    let free = subst A s.long (free_is T l ls s.holds) in
    let first = chosen-is (firsts (l ∷ ls) alive) (has_label l any_policy) user p in
    let second = choice (is_none user || has user any_policy) _ _ _ _
    (let f : (In p (firsts (l ∷ ls) alive) ⊎ ((p ≡ any_policy) × IsTrue (has_label l any_policy))) ↔ (IsFirstOf T p ⊎ ((p ≡ any_policy) × T (anys (count cs)))) = (
      (λ x. elim x [ inl a ↦ inl (found.0 a) | inr b ↦ inr (b.0, free.0 b.1) ]),
      (λ x. elim x [ inl a ↦ inl (found.1 a) | inr b ↦ inr (b.0, free.1 b.1) ]),
    ) in f)
    (let f : (In p user × (IsTrue (has_label l any_policy) ⊎ In p (firsts (l ∷ ls) alive))) ↔ (In p user × (T (anys (count cs)) ⊎ IsFirstOf T p)) = (
      (λ x. (x.0, elim x.1 [ inl a ↦ inl (free.0 a) | inr b ↦ inr (found.0 b) ])),
      (λ x. (x.0, elim x.1 [ inl a ↦ inl (free.1 a) | inr b ↦ inr (found.1 b) ])),
    ) in f) in
    (λ i. second.0 (first.0 i), λ a. first.1 (second.1 a))

-- the last of a list comes first in `newest`
pub newest-last : {X Y : Type 0} (f : X → Y) (xs : List X) (x : X) → 0 < length xs → x ≡ get_or xs (length xs - 1) x → newest f [] xs ≡ f x ∷ newest f [] (take (length xs - 1) xs)
newest-last f xs x pos is =
    ap (newest f []) (
    sym (take_all (length xs) xs (le_refl (length xs))) ∙ ap (λ n. take n xs) (let back : length xs ≡ suc (length xs - 1) = omega arith in back)
    ∙ take-suc xs (length xs - 1) x (let lt : length xs - 1 < length xs = omega arith in lt) ∙ ap (λ y. take (length xs - 1) xs ++ (y ∷ [])) (sym is))
    ∙ newest-push f [] (take (length xs - 1) xs) x

pub is_over-cons : (l : Layer) (ls : List Layer) → is_over (l ∷ ls) ≡ (length l == 0)
is_over-cons [] ls = refl
is_over-cons (x ∷ l) ls = sym (ne_eqb (length (x ∷ l)) 0 (λ e. omega (arith, e)))

pub some_if : (n : ℕ) (b : Bool) → b ≡ (n == 0) → b ≡ false → 0 < n
some_if n b e f = let ne = eqb-false n 0 (sym e ∙ f) in omega (arith, ne)

pub fine_if : (c : CertPolicies) → maps_any c ≡ false → MapsNoAny c
fine_if c h p q i = (
  (λ e. clash (maps_any c) (passes (λ m. same m.0 any_policy || same m.1 any_policy) (p, q) c.mappings i (ap (λ b. b || same q any_policy) (same-eq p any_policy e))) h),
  (λ e. clash (maps_any c) (passes (λ m. same m.0 any_policy || same m.1 any_policy) (p, q) c.mappings i (or_right (same p any_policy) (same q any_policy) (same-eq q any_policy e))) h),
)
  where
    or_right : (a b : Bool) → b ≡ true → (a || b) ≡ true
    or_right true b h = refl
    or_right false b h = h

pub fine_only : (c : CertPolicies) → MapsNoAny c → maps_any c ≡ false
fine_only c fine =
    elim (decide (maps_any c)) [
      | inr f ↦ f
      | inl t ↦
          let r = passer (λ m. same m.0 any_policy || same m.1 any_policy) c.mappings t in
          let apart = fine r.0.0 r.0.1 r.1 in
          absurd (clash (same r.0.0 any_policy || same r.0.1 any_policy) r.2 (ap (λ b. b || same r.0.1 any_policy) (same-ne r.0.0 any_policy apart.0) ∙ same-ne r.0.1 any_policy apart.1))
    ]

-- what a user who names policies accepts, by a set of the first labels
pub chosen_members : {X : Type 0} (now : X → Label) (found es : List Label) → ((p : Label) → In p es ↔ In p found) → (free : Bool) (user xs : List X)
    → (is_none (map now user) || has (map now user) any_policy) ≡ false → free ≡ false → xs ≡ filter (λ p. has es (now p)) user → map now xs ≡ chosen found free (map now user)
chosen_members now found es h free user xs a f is =
    let us = map now user in
    ap (map now) is ∙ map_filter now (has es) user ∙ filter_alike (has es) (λ p. has found p) (has_alike es found h) us
    ∙ sym (if_false (is_none us || has us any_policy) (cond free (found ++ (any_policy ∷ [])) found) _ a ∙ if_false free us _ f)

-- steps of the way up, seen as labels
pub tops_view : (alive : List Label) (xs : List Link) (ys : List OidRef)
    → ys ≡ map (λ x. x.label) (filter (λ x. is_top alive (link_in x)) xs)
    → map (λ y. y.content.now) ys ≡ tops (map link_in xs) alive
tops_view alive xs ys is =
    let first : Label × Label → Label = λ x. x.0 in
    let left = filter (λ x. is_top alive (link_in x)) xs in
    ap (map (λ y. y.content.now)) is ∙ map_map (λ x. x.label) (λ y. y.content.now) left ∙ sym (map_map link_in first left) ∙ ap (map first) (map_filter link_in (λ x. is_top alive x) xs)

pub above_view : (alive : List Label) (xs : List Link) (ys : List OidRef)
    → ys ≡ map (λ x. x.above) (filter (λ x. has alive x.label.content.now) xs)
    → map (λ y. y.content.now) ys ≡ above_alive (map link_in xs) alive
above_view alive xs ys is =
    let second : Label × Label → Label = λ x. x.1 in
    let left = filter (λ x. has alive x.label.content.now) xs in
    ap (map (λ y. y.content.now)) is ∙ map_map (λ x. x.above) (λ y. y.content.now) left ∙ sym (map_map link_in second left) ∙ ap (map second) (map_filter link_in (λ x. has alive x.0) xs)
