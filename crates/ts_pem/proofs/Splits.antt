-- The lines of a text by its first line feed.
use Rattle.std.proofs.Common.{◌≡◌, ℕ, ◌+◌, ◌<◌, ◌≤◌, Bool, true, false, List, [], ◌∷◌, ◌-◌, suc, length, take, drop, refl, ap, arith, sym, ◌∙◌, length-drop, cond, not, nat_lt}
use Rattle.std.specs.Prelude.{Some, None}
use Rattle.std.specs.List.{position, position_or_len, prefix_len, slice_split, onto_first}
use Rattle.std.proofs.lemmas.List.{take_all}
use Rattle.std.proofs.lemmas.Bool.Decides.{nat_tests}
use Rattle.std.proofs.lemmas.List.Quantifiers.{position-Some}
use Rattle.std.proofs.lemmas.List.Sums.{position_or_len_is}
use Rattle.std.proofs.lemmas.List.Splits.{slice_split_first}

first_is : (p : ℕ → Bool) (xs : List ℕ) (i : ℕ) → position p xs ≡ Some i → position_or_len p xs ≡ i
first_is p xs i found =
    let h = position-Some p xs i 0 found in
    position_or_len_is p xs i 0 (omega (arith, h.0)) h.2 (λ (w : i < length xs). h.1)

pub split_at : (p : ℕ → Bool) (xs : List ℕ) (i : ℕ) → position p xs ≡ Some i
    → slice_split p xs ≡ take i xs ∷ slice_split p (drop (i + 1) xs)
split_at p xs i found =
    let h = position-Some p xs i 0 found in
    let e = first_is p xs i found in
    let few : position_or_len p xs < length xs = omega (arith, h.0, e) in
    slice_split_first p xs 0 few
    ∙ ap (λ (n : ℕ). take n xs ∷ slice_split p (drop (n + 1) xs)) e

-- the same, with what follows as a slice of the rest
pub split_front : (p : ℕ → Bool) (xs : List ℕ) (i : ℕ) → position p xs ≡ Some i
    → slice_split p xs
    ≡ take i xs ∷ slice_split p (take (length xs - (i + 1)) (drop (i + 1) xs))
split_front p xs i found =
    split_at p xs i found
    ∙ ap (λ (rest : List ℕ). take i xs ∷ slice_split p rest)
    (sym (take_all (length xs - (i + 1)) (drop (i + 1) xs) (omega (arith, length-drop (i + 1) xs))))

none_is : (a b : ℕ) → cond (nat_lt a b) (Some a) None ≡ None → b ≤ a
none_is a b e = grind (arith, nat_tests, e)

-- where no element passes there is one part
split_whole : (p : ℕ → Bool) (xs : List ℕ) → length xs ≤ prefix_len (λ x. not (p x)) xs
    → slice_split p xs ≡ xs ∷ []
split_whole p [] few = refl
split_whole p (x ∷ xs) few =
    (elim (p x) as (λ b. suc (length xs) ≤ cond (not b) (1 + prefix_len (λ y. not (p y)) xs) 0
    → cond b ([] ∷ slice_split p xs) (onto_first x (slice_split p xs)) ≡ (x ∷ xs) ∷ []) [
      | true ↦ λ h. absurd (omega arith)
      | false ↦ λ h. ap (λ (parts : List (List ℕ)). onto_first x parts) (split_whole p xs (omega arith))
    ]) few

pub split_none : (p : ℕ → Bool) (xs : List ℕ) → position p xs ≡ None → slice_split p xs ≡ xs ∷ []
split_none p xs found = split_whole p xs (none_is (position_or_len p xs) (length xs) found)
