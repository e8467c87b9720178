-- Lists that are compared with the front of another list, as the constraints of a table with a name
-- that is looked up.
use Rattle.std.specs.Prelude.{◌≡◌, Bool, List, [], ◌∷◌, length}
use Rattle.std.specs.List.{list_any, AllAdjacentBelow}
use Rattle.std.specs.Ordering.{ordering_then, is_eq}
use Rattle.std.specs.declared.cmp.Ordering.{Ordering}
use Rattle.std.specs.declared.cmp.Ordering.TheVariants.{Less, Equal, Greater}

-- a list against the front of another of its length: by the first items that differ, and a list
-- that is longer than the other is above it
abbrev pub front_cmp : {A : Type 0} → (A → A → Ordering) → List A → List A → Ordering
front_cmp cmp [] ys = Equal
front_cmp cmp (x ∷ xs) [] = Greater
front_cmp cmp (x ∷ xs) (y ∷ ys) = ordering_then (cmp x y) (front_cmp cmp xs ys)

-- whether a list is the front of another
abbrev pub is_front : {A : Type 0} → (A → A → Ordering) → List A → List A → Bool
is_front cmp xs ys = is_eq (front_cmp cmp xs ys)

-- whether an entry, each of which is a list by its key, is the front of a list
abbrev pub has_front : {X A : Type 0} → (A → A → Ordering) → (X → List A) → List X → List A → Bool
has_front cmp key entries item = list_any (λ e. is_front cmp (key e) item) entries

-- each entry is below the next, and not a front of it
abbrev pub AreApart : {X A : Type 0} → (A → A → Ordering) → (X → List A) → List X → Type 0
AreApart cmp key entries = AllAdjacentBelow (λ x y. front_cmp cmp (key x) (key y) ≡ Less) entries
    (length entries)
