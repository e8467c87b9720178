-- Pieces of pieces.
use Rattle.std.proofs.Common.{◌≡◌, ℕ, zero, suc, ◌+◌, ◌<◌, List, [], ◌∷◌, ◌++◌, length, take, get_or, refl, sym, ap, ◌∙◌, append_assoc, add-one, arith}
use Rattle.std.specs.List.{flat_map}
use Rattle.std.proofs.lemmas.List.{append-nil}
use Rattle.std.proofs.lemmas.List.Concat.{flat_map-append}

-- the pieces of the pieces of a list
pub nested : {X Y A : Type 0} (f : Y → List A) (g : X → List Y) (xs : List X) → flat_map f (flat_map g xs) ≡ flat_map (λ x. flat_map f (g x)) xs
nested f g [] = refl
nested {X} {Y} {A} f g (x ∷ xs) = flat_map-append f (g x) (flat_map g xs) ∙ ap (λ (rest : List A). flat_map f (g x) ++ rest) (nested f g xs)

-- one more piece
pub pieces-more : {X : Type 0} (f : X → List ℕ) (old : List ℕ) (xs : List X) (i : ℕ) (x : X) → i < length xs
    → (old ++ flat_map f (take i xs)) ++ f (get_or xs i x) ≡ old ++ flat_map f (take (i + 1) xs)
pieces-more f old xs i x h =
    rw add-one (append_assoc old (flat_map f (take i xs)) (f (get_or xs i x)) ∙ ap (λ (o : List ℕ). old ++ o) (rest f xs i x h))
  where
    rest : {X : Type 0} (f : X → List ℕ) (xs : List X) (i : ℕ) (x : X) → i < length xs → flat_map f (take i xs) ++ f (get_or xs i x) ≡ flat_map f (take (suc i) xs)
    rest f [] i x h = absurd (omega arith)
    rest f (y ∷ ys) zero x h = sym (append-nil (f y))
    rest f (y ∷ ys) (suc i) x h = append_assoc (f y) (flat_map f (take i ys)) (f (get_or ys i x)) ∙ ap (λ (o : List ℕ). f y ++ o) (rest f ys i x (omega arith))
