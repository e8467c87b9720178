-- The table of what is known of the lists.
use Rattle.std.proofs.Common.{◌≡◌, ℕ, zero, suc, ◌+◌, ◌<◌, ◌⊎◌, inl, inr, List, [], ◌∷◌, length, get_or, drop, replicate, refl, sym, ◌∙◌, ap, subst}
use Rattle.std.proofs.lemmas.List.{get_or_default, drop_more}
use lib.ListN.{set}
use Rattle.ts_crl.specs.declared.crl.Crl.{Crl}
use Rattle.ts_crl.specs.ListView.{crl_in}
use Rattle.ts_revoke.specs.declared.looked.Looked.{Looked}
use Rattle.ts_revoke.specs.declared.looked.Looked.TheVariants.{NotYet}
use Rattle.ts_revoke.specs.inside.Looked.{IsLooked, AreLooked}
use Rattle.ts_revoke.specs.Question.{StatusQuestion}

-- a list at its place, before those that follow
pub next_is : (lists : List Crl) (i : ℕ) (l : Crl) → i < length lists → l ≡ get_or lists i l → drop i lists ≡ l ∷ drop (i + 1) lists
next_is lists i l inside at = drop_more lists i l inside ∙ ap (λ x. x ∷ drop (i + 1) lists) (sym at)

-- in a new table nothing is known
read_new : (n i : ℕ) → get_or (replicate n NotYet) i NotYet ≡ NotYet
read_new zero i = refl
read_new (suc n) zero = refl
read_new (suc n) (suc i) = read_new n i

pub looked_new : (q : StatusQuestion) (lists : List Crl) (n : ℕ) → AreLooked q lists (replicate n NotYet)
looked_new q lists n i d within = subst (IsLooked q (crl_in (get_or lists i d))) (sym (read_new n i)) tt

-- what is read after a write is what stood there before, or what was written
read_set : (table : List Looked) (i k : ℕ) (e : Looked) → (get_or (set table i e) k NotYet ≡ get_or table k NotYet) ⊎ ((k ≡ i) × (get_or (set table i e) k NotYet ≡ e))
read_set [] i k e = inl refl
read_set (x ∷ xs) zero zero e = inr (refl, refl)
read_set (x ∷ xs) zero (suc k) e = inl refl
read_set (x ∷ xs) (suc i) zero e = inl refl
read_set (x ∷ xs) (suc i) (suc k) e = elim (read_set xs i k e) [ inl same ↦ inl same | inr new ↦ inr (ap (λ n. suc n) new.0, new.1) ]

-- what is kept of a list stays true
pub looked_more : (q : StatusQuestion) (lists : List Crl) (table : List Looked) (i : ℕ) (l : Crl) (e : Looked)
    → i < length lists → l ≡ get_or lists i l → IsLooked q (crl_in l) e → AreLooked q lists table → AreLooked q lists (set table i e)
looked_more q lists table i l e inside at true_of known k d within = elim (read_set table i k e) [
  | inl same ↦ subst (IsLooked q (crl_in (get_or lists k d))) (sym same) (known k d within)
  | inr new ↦ (
      let here : l ≡ get_or lists k d = at ∙ get_or_default lists i l d inside ∙ ap (λ n. get_or lists n d) (sym new.0) in
      subst (λ x. IsLooked q (crl_in (get_or lists k d)) x) (sym new.1) (subst (λ x. IsLooked q (crl_in x) e) here true_of)
      )
]
