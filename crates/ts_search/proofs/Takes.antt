-- Lists that are made up to a limit.
use Rattle.std.proofs.Common.{◌≡◌, ℕ, zero, suc, ◌+◌, ◌-◌, ◌≤◌, List, [], ◌∷◌, ◌++◌, map, length, take, drop, refl, sym, ap, ◌∙◌, arith, append_assoc}
use Rattle.std.proofs.lemmas.List.{take-append-le, append-nil}

pub take_all : {X : Type 0} (n : ℕ) (xs : List X) → length xs ≤ n → take n xs ≡ xs
take_all zero [] h = refl
take_all zero (x ∷ xs) h = absurd (omega (arith, h))
take_all (suc n) [] h = refl
take_all (suc n) (x ∷ xs) h = ap (λ t. x ∷ t) (take_all n xs (omega (arith, h)))

-- what is full stays
pub take_full : {X : Type 0} (n : ℕ) (xs ys zs : List X) → length xs ≡ n → take n (xs ++ ys) ≡ take n (xs ++ zs)
take_full n xs ys zs e = take-append-le n xs ys (omega (arith, e)) ∙ sym (take-append-le n xs zs (omega (arith, e)))

pub take_again : {X : Type 0} (n : ℕ) (xs ys : List X) → take n (take n xs ++ ys) ≡ take n (xs ++ ys)
take_again zero xs ys = refl
take_again (suc n) [] ys = refl
take_again (suc n) (x ∷ xs) ys = ap (λ t. x ∷ t) (take_again n xs ys)

pub length_take : {X : Type 0} (n : ℕ) (xs : List X) → length (take n xs) ≤ n
length_take zero xs = omega arith
length_take (suc n) [] = omega arith
length_take (suc n) (x ∷ xs) = omega (arith, length_take n xs)

-- an element goes over from what is left to what is made
pub moved : {X : Type 0} (xs ys : List X) (y : X) → xs ++ y ∷ ys ≡ (xs ++ y ∷ []) ++ ys
moved xs ys y = sym (append_assoc xs (y ∷ []) ys)

drop_none : {X : Type 0} (n : ℕ) (xs : List X) → length xs ≤ n → drop n xs ≡ []
drop_none zero [] h = refl
drop_none zero (x ∷ xs) h = absurd (omega (arith, h))
drop_none (suc n) [] h = refl
drop_none (suc n) (x ∷ xs) h = drop_none n xs (omega (arith, h))

pub length_map : {X Y : Type 0} (f : X → Y) (xs : List X) → length (map f xs) ≡ length xs
length_map f [] = refl
length_map f (x ∷ xs) = ap suc (length_map f xs)

-- where nothing is left, what is made is all up to the limit
pub made_whole : {X Y Z : Type 0} (limit : ℕ) (item : Y → X) (made : List Y)
    (more : List Z → List X) (rest : List Z) (n : ℕ) (all : List X) → length made ≤ limit
    → length rest ≤ n → more [] ≡ []
    → take limit (map item made ++ more (drop n rest)) ≡ take limit all
    → map item made ≡ take limit all
made_whole {X} limit item made more rest n all few over none e =
    sym (ap (take limit) (ap (λ r. map item made ++ more r) (drop_none n rest over)
    ∙ ap (λ r. map item made ++ r) none ∙ append-nil (map item made))
    ∙ take_all limit (map item made) (let m = length_map item made in omega (arith, few, m)))
    ∙ e

-- what has fewer elements than it may have is whole
pub take_short : {X : Type 0} (m n : ℕ) (xs : List X) → m ≡ n + 1 → length (take m xs) ≤ n → take m xs ≡ xs
take_short zero n xs e h = absurd (omega (arith, e))
take_short (suc m) n [] e h = refl
take_short (suc m) n (x ∷ xs) e h = ap (λ t. x ∷ t) (take_short m (n - 1) xs (omega (arith, e, h)) (omega (arith, e, h)))

-- the front of the front
pub take_front : {X : Type 0} (m n : ℕ) (xs : List X) → n ≤ m → take n (take m xs) ≡ take n xs
take_front m zero xs h = refl
take_front zero (suc n) xs h = absurd (omega (arith, h))
take_front (suc m) (suc n) [] h = refl
take_front (suc m) (suc n) (x ∷ xs) h = ap (λ t. x ∷ t) (take_front m n xs (omega (arith, h)))

pub take_behind : {X : Type 0} (m n : ℕ) (xs ys : List X) → n ≡ length xs + m → take n (xs ++ ys) ≡ xs ++ take m ys
take_behind m n [] ys e = ap (λ k. take k ys) (omega (arith, e))
take_behind m zero (x ∷ xs) ys e = absurd (omega (arith, e))
take_behind m (suc n) (x ∷ xs) ys e = ap (λ t. x ∷ t) (take_behind m n xs ys (omega (arith, e)))

pub length_take_le : {X : Type 0} (n : ℕ) (xs : List X) → length (take n xs) ≤ length xs
length_take_le zero xs = omega arith
length_take_le (suc n) [] = omega arith
length_take_le (suc n) (x ∷ xs) = omega (arith, length_take_le n xs)

pub map_take : {X Y : Type 0} (f : X → Y) (n : ℕ) (xs : List X) → map f (take n xs) ≡ take n (map f xs)
map_take f zero xs = refl
map_take f (suc n) [] = refl
map_take f (suc n) (x ∷ xs) = ap (λ t. f x ∷ t) (map_take f n xs)
