-- What passes at each place passes at one, and where one place has another that passes.
use Rattle.std.proofs.Common.{rules, ◌≡◌, ◌<◌, ◌∷◌, [], ℕ, zero, suc, Bool, List, true, length, slice_index_or, slice_set}
use native.Mathlib.Omega.{arith}
use Rattle.std.specs.Cmp.{first_so, second_so}
use Rattle.std.specs.Cmp.Derive.{both_true}
use Rattle.std.specs.List.{list_all}

pub one_passes : {A : Type 0} (p : A → Bool) (xs : List A) (i : ℕ) (d : A) → list_all p xs ≡ true → i < length xs → p (slice_index_or xs i d) ≡ true
one_passes p [] i d all below = search rules
one_passes p (x ∷ xs) zero d all below = first_so (p x) (list_all p xs) all
one_passes p (x ∷ xs) (suc i) d all below = one_passes p xs i d (second_so (p x) (list_all p xs) all) (omega (arith, below))

pub set_passes : {A : Type 0} (p : A → Bool) (xs : List A) (i : ℕ) (y : A) → list_all p xs ≡ true → p y ≡ true → list_all p (slice_set xs i y) ≡ true
set_passes p [] i y all one = search rules
set_passes p (x ∷ xs) zero y all one = both_true one (second_so (p x) (list_all p xs) all)
set_passes p (x ∷ xs) (suc i) y all one = both_true (first_so (p x) (list_all p xs) all) (set_passes p xs i y (second_so (p x) (list_all p xs) all) one)
