-- The prefix of a log, taken command by command.
use Rattle.std.proofs.Common.{◌≡◌, ◌∙◌, ◌+◌, ◌<◌, ◌≤◌, ◌++◌, ◌∷◌, ℕ, zero, suc, List, [], length, take, get_or, Option, Some, None, true, is_some, ap, refl, sym, subst, arith}
use Rattle.std.proofs.Math.Seq.{take-suc}
use Rattle.ts_synod.specs.Log.{last_position, leading, prefix}
use Rattle.ts_synod.proofs.PrefixLength.{length_leads}

leading_get : {C : Type 0} (k p : ℕ) (f : ℕ → Option C) (i : ℕ) (d c : C) → i < length (leading k p f) → f (p + i) ≡ Some c → get_or (leading k p f) i d ≡ c
leading_get zero p f i d c l is = absurd (omega arith)
leading_get {C} (suc k) p f i d c l is = go (leading_get k (suc p) f) (f p) refl i l is
  where
    go : ((j : ℕ) (d c : C) → j < length (leading k (suc p) f) → f (suc p + j) ≡ Some c
        → get_or (leading k (suc p) f) j d ≡ c) → (o : Option C) → f p ≡ o → (i : ℕ)
        → i < length {A = C} (elim o [ None ↦ [] | Some e ↦ e ∷ leading k (suc p) f ])
        → f (p + i) ≡ Some c → get_or {A = C}
        (elim o [ None ↦ [] | Some e ↦ e ∷ leading k (suc p) f ]) i d ≡ c
    go rest None e i l is = absurd (omega arith)
    go rest (Some x) e zero l is = let z : p + 0 ≡ p = omega arith in let same : f p ≡ Some c = subst (λ q. f q ≡ Some c) z is in cc
    go rest (Some x) e (suc i) l is = let z : p + suc i ≡ suc p + i = omega arith in rest i d c (omega arith) (subst (λ q. f q ≡ Some c) z is)

prefix_get : {C : Type 0} (f : ℕ → Option C) (i : ℕ) (c : C) → i < length (prefix f) → f (i + 1) ≡ Some c → get_or (prefix f) i c ≡ c
unfolding prefix
prefix_get f i c l is = let z : i + 1 ≡ 1 + i = omega arith in leading_get last_position 1 f i c c l (subst (λ q. f q ≡ Some c) z is)

-- one more is taken
pub goes_on : {C : Type 0} (f : ℕ → Option C) (i : ℕ) (c : C) (taken more : List C) → i < length (prefix f)
    → Some c ≡ f (i + 1) → taken ≡ take i (prefix f) → more ≡ taken ++ c ∷ [] → more ≡ take (i + 1) (prefix f)
goes_on f i c taken more l is so_far added =
    let one : i + 1 ≡ suc i = omega arith in
    added ∙ ap (λ cs. cs ++ c ∷ []) so_far ∙ ap (λ d. take i (prefix f) ++ d ∷ []) (sym (prefix_get f i c l (sym is)))
    ∙ sym (take-suc (prefix f) i c l) ∙ ap (λ n. take n (prefix f)) (sym one)

-- there is no gap within it
pub no_gap : {C : Type 0} (f : ℕ → Option C) (i : ℕ) → i < length (prefix f) → None ≡ f (i + 1) → ⊥
no_gap f i l gap =
    let z : 1 + i ≡ i + 1 = omega arith in
    let there : is_some (f (i + 1)) ≡ true = subst (λ q. is_some (f q) ≡ true) z ((length_leads f).below i l) in
    let none : f (i + 1) ≡ None = sym gap in
    absurd (cc)

-- how many it has at most
pub most : {C : Type 0} (f : ℕ → Option C) → length (prefix f) ≤ 1000000
most f = (length_leads f).most
