-- Lists as sets that grow, functions changed at one place, and two majorities.
use Rattle.std.proofs.Common.{ℕ, zero, suc, List, [], Some, Bool, true, false, inl, inr, refl, sym}
use Rattle.std.proofs.Common.{subst, ⊎_elim, arith, slice_get, true≢false, ◌≡◌, ◌≢◌, ◌⊎◌, ◌+◌, ◌/◌}
use Rattle.std.proofs.Common.{◌<◌, ◌∷◌, ◌++◌, ◌==◌, ◌&&◌, ◌∙◌, if◌then◌else◌}
use Rattle.std.proofs.lemmas.Bool.Decides.{Decides-eqb, Decides-ltb}
use Rattle.ts_synod.specs.Lists.{Has, update_at}
use Rattle.ts_synod.specs.Majority.{IsMajority, count, is_majority}

pub has_left : {A : Type 0} (xs ys : List A) (x : A) → Has xs x → Has (xs ++ ys) x
has_left [] ys x h = absurd h
has_left (z ∷ xs) ys x (inl e) = inl e
has_left (z ∷ xs) ys x (inr h) = inr (has_left xs ys x h)

pub has_right : {A : Type 0} (xs ys : List A) (x : A) → Has ys x → Has (xs ++ ys) x
has_right [] ys x h = h
has_right (z ∷ xs) ys x h = inr (has_right xs ys x h)

pub has_cases : {A : Type 0} (xs ys : List A) (x : A) → Has (xs ++ ys) x → Has xs x ⊎ Has ys x
has_cases [] ys x h = inr h
has_cases (z ∷ xs) ys x (inl e) = inl (inl e)
has_cases (z ∷ xs) ys x (inr h) = ⊎_elim (λ (k : Has xs x). inl (inr k)) (λ (k : Has ys x). inr k) (has_cases xs ys x h)

pub has_at : {A : Type 0} (xs : List A) (k : ℕ) (x : A) → slice_get xs k ≡ Some x → Has xs x
has_at [] k x e = absurd (cc)
has_at (y ∷ xs) zero x e = inl (cc)
has_at (y ∷ xs) (suc k) x e = inr (has_at xs k x e)

-- by cases on a test
pub by_test : {A : Type 0} (P : A → Type 0) (b : Bool) (x y : A) → (b ≡ true → P x) → (b ≡ false → P y) → P (if b then x else y)
by_test P true x y f g = f refl
by_test P false x y f g = g refl

pub put_all : {A : Type 0} (P : ℕ → A → Type 0) (f : ℕ → A) (i : ℕ) (v : A) → P i v → ((j : ℕ) → j ≢ i → P j (f j)) → (j : ℕ) → P j (update_at f i v j)
put_all {A} P f i v here there j =
    by_test (P j) (j == i) v (f j)
    (λ e. subst (λ k. P k v) (sym ((Decides-eqb j i).0 e)) here)
    (λ e. there j (λ same. true≢false (sym ((Decides-eqb j i).1 same) ∙ e)))

pub put_same : {A : Type 0} (f : ℕ → A) (i : ℕ) (v : A) (j : ℕ) → j ≡ i → update_at f i v j ≡ v
put_same f i v j e = by_test (λ x. x ≡ v) (j == i) v (f j) (λ _. refl) (λ d. absurd (true≢false (sym ((Decides-eqb j i).1 e) ∙ d)))

-- two sets of nodes with more members than there are nodes share one
pub meet : (q r : ℕ → Bool) (n : ℕ) → n < count q n + count r n → (k : ℕ) × (k < n) × (q (suc k) ≡ true) × (r (suc k) ≡ true)
meet q r zero h = absurd (omega arith)
meet q r (suc n) h = go (λ l. meet q r n l) (q (suc n)) (r (suc n)) refl refl h
  where
    more : (k : ℕ) × (k < n) × (q (suc k) ≡ true) × (r (suc k) ≡ true) → (k : ℕ) × (k < suc n) × (q (suc k) ≡ true) × (r (suc k) ≡ true)
    more m = (m.0, omega (arith, m.1), m.2, m.3)

    go : (n < count q n + count r n → (k : ℕ) × (k < n) × (q (suc k) ≡ true) × (r (suc k) ≡ true))
        → (x y : Bool) → q (suc n) ≡ x → r (suc n) ≡ y
        → suc n < (if x then suc (count q n) else count q n) +
        (if y then suc (count r n) else count r n) → (k : ℕ) × (k < suc n) × (q (suc k) ≡ true)
        × (r (suc k) ≡ true)
    go lower true true e f l = (n, omega arith, e, f)
    go lower true false e f l = more (lower (omega arith))
    go lower false true e f l = more (lower (omega arith))
    go lower false false e f l = more (lower (omega arith))

pub majorities_meet : (q r : ℕ → Bool) (n : ℕ) → IsMajority n q → IsMajority n r → (k : ℕ) × (k < n) × (q (suc k) ≡ true) × (r (suc k) ≡ true)
majorities_meet q r n h k = meet q r n (omega arith)

pub majority_from_test : (n : ℕ) (q : ℕ → Bool) → is_majority n q ≡ true → IsMajority n q
majority_from_test n q e = let l : n / 2 < count q n = (Decides-ltb (n / 2) (count q n)).0 e in omega arith

-- a majority has a member
pub member : (q : ℕ → Bool) (n : ℕ) → IsMajority n q → (k : ℕ) × (k < n) × (q (suc k) ≡ true)
member q n h = let m = majorities_meet q q n h h in (m.0, m.1, m.2)

pub and_true : (x y : Bool) → (x && y) ≡ true → (x ≡ true) × (y ≡ true)
and_true true y e = (refl, e)
and_true false y e = absurd (true≢false (sym e))
