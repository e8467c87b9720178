-- A list that is written place by place.
use Rattle.std.proofs.Common.{◌≡◌, ◌<◌, ◌+◌, ◌∙◌, ◌++◌, ◌∷◌, [], ℕ, List, refl, ◌≤◌, sym, ap, map}
use Rattle.std.proofs.Common.{take, length, get_or, slice_set, add-one}
use Rattle.std.proofs.Math.Seq.{take-suc, take-suc-set}
use Rattle.std.proofs.lemmas.List.{take_all}

map_append : (f : ℕ → ℕ) (xs ys : List ℕ) → map f (xs ++ ys) ≡ map f xs ++ map f ys
map_append f [] ys = refl
map_append f (x ∷ xs) ys = ap (λ (l : List ℕ). f x ∷ l) (map_append f xs ys)

pub one_more : (f : ℕ → ℕ) (out block : List ℕ) (i : ℕ) → i < length out → i < length block
    → take i out ≡ map f (take i block)
    → take (i + 1) (slice_set out i (f (get_or block i 0))) ≡ map f (take (i + 1) block)
one_more f out block i h k so =
    rw (add-one, take-suc-set out i (f (get_or block i 0)) h, take-suc block i 0 k)
    (ap (λ (l : List ℕ). l ++ f (get_or block i 0) ∷ []) so
    ∙ sym (map_append f (take i block) (get_or block i 0 ∷ [])))

pub all_done : (f : ℕ → ℕ) (out block : List ℕ) (i : ℕ) → take i out ≡ map f (take i block)
    → length out ≤ i → length block ≤ i → out ≡ map f block
all_done f out block i so h k = sym (take_all i out h) ∙ so
    ∙ ap (λ (l : List ℕ). map f l) (take_all i block k)
