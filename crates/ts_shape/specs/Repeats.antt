-- What a list states twice: the first item, by its place, that is known by the key of an earlier
-- one.
use Rattle.std.specs.Prelude.{◌≡◌, ℕ, ◌-◌, Bool, true, false, List, [], ◌∷◌, length, map, Option}
use Rattle.std.specs.Prelude.{Some, None, if◌then◌else◌}
use Rattle.std.specs.Borrow.{Bor}
use Rattle.std.specs.Cmp.Lexicographic.{slice_cmp}
use Rattle.std.specs.List.{AllByRecursion, list_any, slice_index, slice_index_or, slice_set}
use Rattle.std.specs.List.Sorted.{IsSorted}
use Rattle.std.specs.Ordering.{nat_cmp}
use Rattle.std.specs.Str.{bytes_eq}

-- a key is among keys
abbrev pub is_among : List ℕ → List (List ℕ) → Bool
is_among k keys = list_any (bytes_eq k) keys

-- the first item whose key is among the keys seen, or is that of an earlier item
unfoldable pub first_repeated : {A : Type 0} → (A → List ℕ) → List (List ℕ) → List A → Option A
first_repeated key seen [] = None
first_repeated key seen (x ∷ xs) =
    if is_among (key x) seen then Some x else first_repeated key (key x ∷ seen) xs

-- the keys that a table holds
abbrev pub keys_in : List (Bor (List ℕ)) → List (List ℕ)
keys_in table = map (λ k. k.now) table

-- they ascend
abbrev pub AreAscending : List (Bor (List ℕ)) → Type 0
AreAscending table = IsSorted (λ a b. slice_cmp nat_cmp a.now b.now) table

-- the last octet of a key, 0 of an empty one
abbrev pub end_of : List ℕ → ℕ
end_of key = slice_index key (length key - 1)

-- of flags, one for each octet in which a key may end: that of a key's end
abbrev pub is_end_met : List Bool → List ℕ → Bool
is_end_met ends key = slice_index_or ends (end_of key) false

-- with the flag of a key's end
abbrev pub with_end : List Bool → List ℕ → List Bool
with_end ends key = slice_set ends (end_of key) true

-- the flags of these keys' ends are set
abbrev pub HaveEnds : List (List ℕ) → List Bool → Type 0
HaveEnds keys ends = AllByRecursion (λ k. is_end_met ends k ≡ true) keys
