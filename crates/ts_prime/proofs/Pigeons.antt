-- As many values as places: an injective function meets each value.
use Rattle.std.proofs.Common.{◌≡◌, ◌≢◌, ℕ, zero, suc, ◌-◌, ◌<◌, ◌≤◌, sym, ap, ◌∙◌, ◌⊎◌, inl, inr, ⊎_elim, arith}
use Rattle.std.proofs.lemmas.Bool.{cases_lt, cases_eq}

abbrev Injective : ℕ → (ℕ → ℕ) → Type 0
Injective n f = (i j : ℕ) → i < j → j < n → f i ≢ f j

-- the numbers but v, moved together
abbrev shift : ℕ → ℕ → ℕ
shift v x = ⊎_elim {C = ℕ} (λ l. x) (λ l. x - 1) (cases_lt x v)

shift_below : (v x m : ℕ) → x < suc m → v < suc m → x ≢ v → shift v x < m
shift_below v x m hx hv ne =
    elim (cases_lt x v) as (λ c. ⊎_elim {C = ℕ} (λ l. x) (λ l. x - 1) c < m)
    [ inl l ↦ omega arith | inr l ↦ omega arith ]

shift_apart : (v x y : ℕ) → x ≢ v → y ≢ v → x ≢ y → shift v x ≢ shift v y
shift_apart v x y nx ny ne =
    elim (cases_lt x v) as (λ c. ⊎_elim {C = ℕ} (λ l. x) (λ l. x - 1) c ≢ shift v y) [
      | inl l ↦ elim (cases_lt y v) as (λ c. x ≢ ⊎_elim {C = ℕ} (λ l. y) (λ l. y - 1) c) [
        | inl k ↦
            omega arith
        | inr k ↦ omega arith
      ]
      | inr l ↦ elim (cases_lt y v) as (λ c. x - 1 ≢ ⊎_elim {C = ℕ} (λ l. y) (λ l. y - 1) c) [
        | inl k ↦
            omega arith
        | inr k ↦ omega arith
      ]
    ]

pub pigeons : (n m : ℕ) (f : ℕ → ℕ) → ((k : ℕ) → k < n → f k < m) → Injective n f → n ≤ m
pigeons zero m f b i = omega arith
pigeons (suc n) zero f b i = absurd (let h = b n (omega arith) in omega (arith, h))
pigeons (suc n) (suc m) f b i =
    let v = f n in
    let apart : (k : ℕ) → k < n → f k ≢ v = λ k h. i k n h (omega arith) in
    let h = pigeons n m (λ k. shift v (f k))
    (λ k h. shift_below v (f k) m (b k (omega arith)) (b n (omega arith)) (apart k h))
    (λ j k l h. shift_apart v (f j) (f k) (apart j (omega arith)) (apart k h)
    (i j k l (omega arith))) in
    omega (arith, h)

search_for : (n : ℕ) (f : ℕ → ℕ) (a : ℕ) → ((k : ℕ) × (k < n) × (f k ≡ a))
    ⊎ ((k : ℕ) → k < n → f k ≢ a)
search_for zero f a = inr (λ k h. absurd (omega (arith, h)))
search_for (suc n) f a =
    elim (cases_eq (f n) a) [
      | inl e ↦ inl (n, omega arith, e)
      | inr ne ↦ elim (search_for n f a) [
        | inl t ↦ inl (t.0, omega (arith, t.1), t.2)
        | inr none ↦ inr (λ k h. elim (cases_eq k n) [
          | inl e ↦ λ q. ne (ap f (sym e) ∙ q)
          | inr other ↦ none k (omega arith)
        ])
      ]
    ]

abbrev with_last : ℕ → (ℕ → ℕ) → ℕ → ℕ → ℕ
with_last n f a k = ⊎_elim {C = ℕ} (λ l. f k) (λ l. a) (cases_lt k n)

-- an injective function from the n numbers below n into those from 1 to n meets each
pub onto : (n : ℕ) (f : ℕ → ℕ) → ((k : ℕ) → k < n → (0 < f k) × (f k ≤ n)) → Injective n f → (a : ℕ)
    → 0 < a → a ≤ n → (k : ℕ) × (k < n) × (f k ≡ a)
onto n f b i a pos le =
    elim (search_for n f a) [
      | inl t ↦ t
      | inr none ↦ absurd (
          let h = pigeons (suc n) n (λ k. with_last n f a k - 1)
          (λ k h. elim (cases_lt k n) as (λ c. ⊎_elim {C = ℕ} (λ l. f k) (λ l. a) c - 1 < n)
          [ inl l ↦ (let t = b k l in omega (arith, t)) | inr l ↦ omega arith ])
          (λ j k l h.
          elim (cases_lt j n) as (λ c. ⊎_elim {C =
          ℕ} (λ l. f j) (λ l. a) c - 1 ≢ with_last n f a k - 1) [
            | inl lj ↦ elim (cases_lt k n) as (λ c. f j - 1 ≢ ⊎_elim {C =
                ℕ} (λ l. f k) (λ l. a) c - 1) [
                  | inl lk ↦ (let t = b j lj in let u = b k lk in let ne = i j k l lk in
                      omega (arith, t, u, ne))
                  | inr lk ↦ (let t = b j lj in let ne = none j lj in omega (arith, t, ne))
                ]
            | inr lj ↦ absurd (omega arith)
          ]) in
          omega (arith, h))
    ]
