-- What holds of each of a list.
use Rattle.std.proofs.Common.{ℕ, zero, suc, List, [], ◌∷◌, ◌++◌, map, take, drop}
use Rattle.std.specs.List.{AllByRecursion}

module _ {X : Type 0} (P : X → Type 0) where
  pub all_append : (xs ys : List X) → AllByRecursion P xs → AllByRecursion P ys → AllByRecursion P (xs ++ ys)
  all_append [] ys h k = k
  all_append (x ∷ xs) ys h k = (h.0, all_append xs ys h.1 k)

  pub all_front : (n : ℕ) (xs : List X) → AllByRecursion P xs → AllByRecursion P (take n xs)
  all_front zero xs h = tt
  all_front (suc n) [] h = tt
  all_front (suc n) (x ∷ xs) h = (h.0, all_front n xs h.1)

  pub all_behind : (n : ℕ) (xs : List X) → AllByRecursion P xs → AllByRecursion P (drop n xs)
  all_behind zero xs h = h
  all_behind (suc n) [] h = tt
  all_behind (suc n) (x ∷ xs) h = all_behind n xs h.1

  pub one_of : (xs : List X) (x : X) (ys : List X) → AllByRecursion P (xs ++ x ∷ ys) → P x
  one_of [] x ys h = h.0
  one_of (y ∷ xs) x ys h = one_of xs x ys h.1

  pub all_weaker : (Q : X → Type 0) → ((x : X) → P x → Q x) → (xs : List X) → AllByRecursion P xs → AllByRecursion Q xs
  all_weaker Q f [] h = tt
  all_weaker Q f (x ∷ xs) h = (f x h.0, all_weaker Q f xs h.1)

pub all_mapped : {X Y : Type 0} (P : X → Type 0) (Q : Y → Type 0) (f : X → Y) → ((x : X) → P x → Q (f x)) → (xs : List X) → AllByRecursion P xs → AllByRecursion Q (map f xs)
all_mapped P Q f g [] h = tt
all_mapped P Q f g (x ∷ xs) h = (g x h.0, all_mapped P Q f g xs h.1)
