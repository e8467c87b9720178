-- Candidates by length, as they are made: each chain is made longer by one certificate above it.
use Rattle.std.specs.Prelude.{◌≡◌, ◌<◌, ℕ, zero, suc, Bool, not, ◌==◌, List, [], ◌∷◌, ◌++◌, map}
use Rattle.std.specs.Prelude.{filter, Option, Some, None, slice_get}
use Rattle.std.specs.List.{list_any, flat_map, range_with_len}

abbrev pub row_or_none : Option (List ℕ) → List ℕ
row_or_none None = []
row_or_none (Some row) = row

-- the row of a place, and of the first place of a chain
abbrev pub row_at : List (List ℕ) → ℕ → List ℕ
row_at rows i = row_or_none (slice_get rows i)

abbrev pub top_row : List (List ℕ) → List ℕ → List ℕ
top_row rows [] = []
top_row rows (i ∷ below) = row_at rows i

abbrev pub is_new : List ℕ → ℕ → Bool
is_new chain i = not (list_any (λ j. j == i) chain)

-- the chains with one certificate above this one
unfoldable pub longer : List (List ℕ) → List ℕ → List (List ℕ)
longer rows chain = map (λ i. i ∷ chain) (filter (is_new chain) (top_row rows chain))

-- the chains of n certificates above the leaf; and all that have less
unfoldable pub level : List (List ℕ) → ℕ → List (List ℕ)
level rows zero = (0 ∷ []) ∷ []
level rows (suc n) = flat_map (longer rows) (level rows n)

unfoldable pub chains : List (List ℕ) → ℕ → List (List ℕ)
chains rows zero = []
chains rows (suc n) = chains rows n ++ level rows n

-- the places whose certificates issued this one, ascending
abbrev pub issuers : (ℕ → ℕ → Bool) → ℕ → ℕ → List ℕ
issuers issues count i = filter (λ k. issues k i) (range_with_len 0 count)

-- each row has the issuers of its place
abbrev pub AreRows : (ℕ → ℕ → Bool) → ℕ → List (List ℕ) → Type 0
AreRows issues count rows = (i : ℕ) → i < count → row_at rows i ≡ issuers issues count i
