-- The rows of a store, one after another.
use Rattle.std.proofs.Common.{◌≡◌, ◌∙◌, sym, ap, subst, ℕ, ◌+◌, ◌<◌, Bool, true, false, List, [], ◌∷◌, Vec, Global, ◌⊎◌, inl, inr, map, drop, get_or, length}
use Rattle.std.proofs.lemmas.List.{drop_more}

-- the octets of rows
abbrev pub items : List (Vec ℕ Global) → List (List ℕ)
items xs = map (λ (x : Vec ℕ Global). x.items) xs

-- what is left, one row on
pub next_row : (xs : List (Vec ℕ Global)) (p : ℕ) (x : Vec ℕ Global) → p < length xs → x ≡ get_or xs p x
    → items (drop p xs) ≡ x.items ∷ items (drop (p + 1) xs)
next_row xs p x h is =
    ap items (drop_more xs p x h)
    ∙ ap (λ (y : Vec ℕ Global). y.items ∷ items (drop (p + 1) xs)) (sym is)

abbrev TrueAt : Bool → Type 0
TrueAt true = Unit {0}
TrueAt false = ⊥

-- the first of two cases, where the flag is set
pub first_case : (flag : Bool) (P Q : Type 0) → flag ≡ true
    → ((flag ≡ true) × P) ⊎ ((flag ≡ false) × Q) → P
first_case flag P Q set (inl one) = one.1
first_case flag P Q set (inr other) = absurd (subst TrueAt (sym set ∙ other.0) tt)
