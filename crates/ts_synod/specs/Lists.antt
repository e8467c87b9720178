-- Lists read as sets that only grow, and functions changed at one place.
use Rattle.std.proofs.Common.{ℕ, List, [], ◌≡◌, ◌⊎◌, ◌∷◌, ◌==◌, if◌then◌else◌}

-- x is in the list
abbrev pub Has : {A : Type 0} → List A → A → Type 0
Has [] x = ⊥
Has (y ∷ ys) x = (y ≡ x) ⊎ Has ys x

-- the function f, but v at i
abbrev pub update_at : {A : Type 0} → (ℕ → A) → ℕ → A → ℕ → A
update_at f i v j = if j == i then v else f j
