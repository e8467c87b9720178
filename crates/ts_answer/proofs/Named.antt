-- The policies that certificates name: each label of their paths is one of these or anyPolicy, and
-- so each policy that is accepted is one of these, anyPolicy or one of the user's.
use Rattle.std.proofs.Common.{◌≡◌, ℕ, zero, suc, Bool, true, false, ◌||◌, cond, nat_lt, List, [], ◌∷◌}
use Rattle.std.proofs.Common.{◌++◌, map, filter, refl, sym, inl, inr, ◌⊎◌}
use Rattle.std.specs.Prelude.{MatchBool}
use Rattle.ts_policy.specs.Labels.{Label, Path, any_policy, same, In, has, anys}
use Rattle.ts_policy.specs.Paths.{CertPolicies, policies_stated, is_mapped, targets, end_of, expected, MayFollow, Taken, Added, InS, InT, count}
use Rattle.ts_policy.specs.Accepted.{IsFirstOf, IsAccepted, is_none}
use Rattle.ts_policy.proofs.Same.{eq-from_same}
use Rattle.ts_policy.proofs.Lists.{In-append_left, In-append_right, In-map, In-from_map, In-from_filter, passer, along, moved}

-- ---- what certificates name

-- the policies that a certificate states, those that it maps, and those that it maps to
abbrev pub named : CertPolicies → List Label
named c = policies_stated c ++ (map (λ m. m.0) c.mappings ++ map (λ m. m.1) c.mappings)

-- those of all certificates, and anyPolicy
abbrev pub all_named : List CertPolicies → List Label
all_named [] = any_policy ∷ []
all_named (c ∷ before) = named c ++ all_named before

any_is_named : (cs : List CertPolicies) → In any_policy (all_named cs)
any_is_named [] = inl refl
any_is_named (c ∷ before) = In-append_right any_policy (named c) (all_named before) (any_is_named before)

stated_is_named : (c : CertPolicies) (before : List CertPolicies) (p : Label) → In p (policies_stated c) → In p (all_named (c ∷ before))
stated_is_named c before p i = In-append_left p (named c) (all_named before) (In-append_left p (policies_stated c) _ i)

from_is_named : (c : CertPolicies) (before : List CertPolicies) (p : Label) → is_mapped c p ≡ true → In p (all_named (c ∷ before))
from_is_named c before p is =
    let m = passer (λ m. same m.0 p) c.mappings is in
    let i : In p (map (λ m. m.0) c.mappings) = moved m.0.0 p _ (eq-from_same m.0.0 p m.2) (In-map (λ m. m.0) m.0 c.mappings m.1) in
    In-append_left p (named c) (all_named before) (In-append_right p (policies_stated c) _ (In-append_left p (map (λ m. m.0) c.mappings) _ i))

target_is_named : (c : CertPolicies) (before : List CertPolicies) (p q : Label) → In q (targets c p) → In q (all_named (c ∷ before))
target_is_named c before p q i =
    let m = In-from_map (λ m. m.1) q (filter (λ m. same m.0 p) c.mappings) i in
    let k = In-from_filter (λ m. same m.0 p) m.0 c.mappings m.1 in
    let j : In q (map (λ m. m.1) c.mappings) = moved m.0.1 q _ m.2 (In-map (λ m. m.1) m.0 c.mappings k.0) in
    In-append_left q (named c) (all_named before) (In-append_right q (policies_stated c) _ (In-append_right q (map (λ m. m.0) c.mappings) _ j))

-- ---- paths

alone_is : (p q : Label) (xs : List Label) → In q (p ∷ []) → In p xs → In q xs
alone_is p q xs (inl e) i = moved p q xs e i
alone_is p q xs (inr h) i = absurd h

-- what a path expects whose end is named
expected_is_named : (cs : List CertPolicies) (p q : Label) → In p (all_named cs) → In q (expected cs p) → In q (all_named cs)
expected_is_named [] p q i h = alone_is p q (all_named []) h i
expected_is_named (c ∷ before) p q i h = by_any (same p any_policy) h
  where
    by_mapped : (b : Bool) → In q (cond b (targets c p) (p ∷ [])) → In q (all_named (c ∷ before))
    by_mapped true h = target_is_named c before p q h
    by_mapped false h = alone_is p q (all_named (c ∷ before)) h i

    by_any : (b : Bool) → In q (cond b (any_policy ∷ []) (cond (is_mapped c p) (targets c p) (p ∷ []))) → In q (all_named (c ∷ before))
    by_any true h = alone_is any_policy q (all_named (c ∷ before)) h (any_is_named (c ∷ before))
    by_any false h = by_mapped (is_mapped c p) h

-- each label of these paths is named
abbrev AreNamed : (Path → Type 0) → List CertPolicies → Type 0
AreNamed S cs = (w : Path) → S w → (p : Label) → In p w → In p (all_named cs)

end_is_named : (S : Path → Type 0) (cs : List CertPolicies) → AreNamed S cs → (w : Path) → S w → In (end_of w) (all_named cs)
end_is_named S cs are [] s = any_is_named cs
end_is_named S cs are (p ∷ w) s = are (p ∷ w) s p (inl refl)

next_is_named : (c : CertPolicies) (before : List CertPolicies) (S : Path → Type 0) → AreNamed S before
    → (w : Path) (p : Label) → S w → MayFollow c (expected before) S w p → In p (all_named (c ∷ before))
next_is_named c before S are w p s (inl h) = stated_is_named c before p h.0
next_is_named c before S are w p s (inr (inl h)) = stated_is_named c before p h.0
next_is_named c before S are w p s (inr (inr h)) =
    In-append_right p (named c) (all_named before) (expected_is_named before (end_of w) p (end_is_named S before are w s) h.2)

taken_are_named : (c : CertPolicies) (before : List CertPolicies) (S : Path → Type 0) → AreNamed S before → AreNamed (Taken c (expected before) S) (c ∷ before)
taken_are_named c before S are [] h p i = absurd h
taken_are_named c before S are (q ∷ w) h p (inl e) = moved q p (all_named (c ∷ before)) e (next_is_named c before S are w q h.0 h.1)
taken_are_named c before S are (q ∷ w) h p (inr i) = In-append_right p (named c) (all_named before) (are w h.0 p i)

any_alone : (k : ℕ) (p : Label) (xs : List Label) → In any_policy xs → In p (anys k) → In p xs
any_alone zero p xs any h = absurd h
any_alone (suc k) p xs any (inl e) = moved any_policy p xs e any
any_alone (suc k) p xs any (inr h) = any_alone k p xs any h

added_are_named : (c : CertPolicies) (before : List CertPolicies) (k : ℕ) (T : Path → Type 0) → AreNamed (Added c k T) (c ∷ before)
added_are_named c before k T [] h p i = absurd h
added_are_named c before k T (q ∷ w) h p (inl e) = moved q p (all_named (c ∷ before)) e (from_is_named c before q h.1)
added_are_named c before k T (q ∷ w) h p (inr i) = any_alone k p (all_named (c ∷ before)) (any_is_named (c ∷ before)) (along p w (anys k) h.0 i)

-- before the mappings and after them
mapped_are_named : (c : CertPolicies) (before : List CertPolicies) → AreNamed (Taken c (expected before) (InS before)) (c ∷ before) → (b : Bool) (w : Path)
    → MatchBool b (Taken c (expected before) (InS before) w ⊎ Added c (count before) (Taken c (expected before) (InS before)) w)
    (Taken c (expected before) (InS before) w × (is_mapped c (end_of w) ≡ false))
    → (p : Label) → In p w → In p (all_named (c ∷ before))
mapped_are_named c before are true w (inl t) p i = are w t p i
mapped_are_named c before are true w (inr a) p i = added_are_named c before (count before) (Taken c (expected before) (InS before)) w a p i
mapped_are_named c before are false w h p i = are w h.0 p i

none_is_named : (w : Path) (xs : List Label) (p : Label) → w ≡ [] → In p w → In p xs
none_is_named w xs p e i = absurd (along p w [] e i)

S_are_named : (cs : List CertPolicies) → AreNamed (InS cs) cs
S_are_named [] w h p i = none_is_named w (all_named []) p h i
S_are_named (c ∷ before) w h p i = mapped_are_named c before (taken_are_named c before (InS before) (S_are_named before)) (nat_lt 0 c.policy_mapping) w h p i

T_are_named : (cs : List CertPolicies) → AreNamed (InT cs) cs
T_are_named [] w h p i = none_is_named w (all_named []) p h i
T_are_named (c ∷ before) w h p i = taken_are_named c before (InS before) (S_are_named before) w h p i

-- ---- what is accepted

first_is_named : (cs : List CertPolicies) (p : Label) → IsFirstOf (InT cs) p → In p (all_named cs)
first_is_named cs p (w, t, first) =
    let v = first.1.0 in
    let k = first.1.1 in
    T_are_named cs w t p (along p (v ++ (p ∷ anys k)) w (sym first.1.2) (In-append_right p v (p ∷ anys k) (inl refl)))

-- one of the user's policies, one that a certificate names, or anyPolicy
pub accepted_is_named : (cs : List CertPolicies) (user : List Label) (p : Label) → IsAccepted (count cs) (InT cs) user p → In p (user ++ all_named cs)
accepted_is_named cs user p is = by_user (is_none user || has user any_policy) is
  where
    T : Path → Type 0
    T = InT cs

    by_user : (b : Bool) → MatchBool b (IsFirstOf T p ⊎ ((p ≡ any_policy) × T (anys (count cs)))) (In p user × (T (anys (count cs)) ⊎ IsFirstOf T p)) → In p (user ++ all_named cs)
    by_user true (inl f) = In-append_right p user (all_named cs) (first_is_named cs p f)
    by_user true (inr a) = In-append_right p user (all_named cs) (moved any_policy p (all_named cs) (sym a.0) (any_is_named cs))
    by_user false h = In-append_left p user (all_named cs) h.0
