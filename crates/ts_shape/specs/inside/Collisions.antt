-- How an item that repeats an earlier one is found without memory: by flags, and a table of the
-- keys that may be there twice.
use Rattle.std.specs.Prelude.{◌≡◌, ℕ, ◌+◌, ◌*◌, ◌%◌, ◌/◌, Bool, true, false, List, [], ◌∷◌, Option}
use Rattle.std.specs.Prelude.{Some, None, option_map, suc, if◌then◌else◌}
use Rattle.std.specs.List.{slice_index_or, AllByRecursion}
use Rattle.std.specs.Str.{bytes_eq}
use Rattle.ts_shape.specs.Repeats.{is_among}

-- each octet is added to the hash of those before it, which is then multiplied by a factor
abbrev pub hash_from : ℕ → ℕ → List ℕ → ℕ
hash_from factor h [] = h
hash_from factor h (x ∷ key) = hash_from factor
    (((h + x) % 18446744073709551616 * factor) % 18446744073709551616) key

-- which of so many flags a key sets: by the upper half of its hash
unfoldable pub flag_of : ℕ → ℕ → List ℕ → ℕ
flag_of flags factor key = (hash_from factor 0 key / 4294967296) % flags

-- the flags of these keys are set, of so many
abbrev pub AreFlagged : ℕ → ℕ → List Bool → List (List ℕ) → Type 0
AreFlagged many factor flags keys =
    AllByRecursion (λ k. slice_index_or flags (flag_of many factor k) false ≡ true) keys

-- of items after others whose keys were seen: the key of each that repeats an earlier one is in a
-- table
unfoldable pub AreCollisions : {A : Type 0} → (A → List ℕ) → List (List ℕ) → List (List ℕ) → List A
    → Type 0
AreCollisions key table seen [] = Unit {0}
AreCollisions key table seen (x ∷ xs) =
    (is_among (key x) seen ≡ true → is_among (key x) table ≡ true)
    × AreCollisions key table (key x ∷ seen) xs

-- the place of the first key that is equal to this one
unfoldable pub place_of : List ℕ → List (List ℕ) → Option ℕ
place_of k [] = None
place_of k (x ∷ keys) = if bytes_eq k x then Some 0 else option_map suc (place_of k keys)
