-- The data block of EMSA-PSS: zeros, 1 and the salt.
use Rattle.std.proofs.Common.{◌≡◌, ℕ, zero, suc, ◌+◌, ◌-◌, ◌%◌, ◌<◌, List, [], ◌∷◌, ◌++◌, length, get_or, set, take, drop, replicate, refl, sym, ap, ◌∙◌, arith}
use Rattle.ts_digest.specs.declared.hash.Hash.{Hash}
use Rattle.ts_digest.specs.Hash.{hash_size}
use Rattle.ts_rsa.specs.Pss.{first_octet_limit, with_first_octet_below, unmasked_from, hash_in, data_block}

-- the hash before the trailer
pub seed-is : (hash : Hash) (em rest seed : List ℕ) (s : ℕ) → s ≡ hash_size hash
    → rest ≡ drop (length em - s - 1) em → seed ≡ take s rest → seed ≡ hash_in hash em
unfolding hash_in
seed-is hash em rest seed s size r e =
    e ∙ ap (λ z. take s z) r ∙ ap (λ z. take z (drop (length em - z - 1) em)) size

first-octet : (limit : ℕ) (xs : List ℕ) → 0 < length xs
    → set xs 0 (get_or xs 0 0 % limit) ≡ with_first_octet_below limit xs
first-octet limit [] l = absurd (omega arith)
first-octet limit (x ∷ xs) l = refl

-- what is unmasked, with its first octet cut, is the data block
pub data-is : (hash : Hash) (bits : ℕ) (em masked seed u : List ℕ) (s limit : ℕ)
    → s ≡ hash_size hash
    → masked ≡ take (length em - s - 1) em → seed ≡ hash_in hash em
    → u ≡ unmasked_from hash seed 0 masked → 0 < length u → limit ≡ first_octet_limit bits em
    → set u 0 (get_or u 0 0 % limit) ≡ data_block hash bits em
unfolding data_block
data-is hash bits em masked seed u s limit size m sd e l f =
    first-octet limit u l
    ∙ (λ j. with_first_octet_below (f j) (e j))
    ∙ ap (with_first_octet_below (first_octet_limit bits em))
    ((λ j. unmasked_from hash (sd j) 0 (m j))
    ∙ ap (λ z. unmasked_from hash (hash_in hash em) 0 (take (length em - z - 1) em)) size)

zeros-are : (xs : List ℕ) → ((k : ℕ) → k < length xs → get_or xs k 0 ≡ 0)
    → xs ≡ replicate (length xs) 0
zeros-are [] h = refl
zeros-are (x ∷ xs) h =
    (λ j. h 0 (omega arith) j ∷ zeros-are xs (λ k l. h (suc k) (omega arith)) j)

split-at : (xs : List ℕ) (place : ℕ) → place < length xs
    → xs ≡ take place xs ++ get_or xs place 0 ∷ drop (suc place) xs
split-at [] place l = absurd (omega arith)
split-at (x ∷ xs) zero l = refl
split-at (x ∷ xs) (suc place) l = λ j. x ∷ split-at xs place (omega arith) j

zero-of : (n : ℕ) (ys : List ℕ) (k : ℕ) → k < n → get_or (replicate n 0 ++ ys) k 0 ≡ 0
zero-of zero ys k l = absurd (omega arith)
zero-of (suc n) ys zero l = refl
zero-of (suc n) ys (suc k) l = zero-of n ys k (omega arith)

after-zeros : (n y : ℕ) (ys : List ℕ) → get_or (replicate n 0 ++ y ∷ ys) n 0 ≡ y
after-zeros zero y ys = refl
after-zeros (suc n) y ys = after-zeros n y ys

take-octet : (xs : List ℕ) (n k : ℕ) → k < n → get_or (take n xs) k 0 ≡ get_or xs k 0
take-octet xs zero k l = absurd (omega arith)
take-octet [] (suc n) k l = refl
take-octet (x ∷ xs) (suc n) zero l = refl
take-octet (x ∷ xs) (suc n) (suc k) l = take-octet xs n k (omega arith)

-- octets that begin with zeros and a 1
pub zeros-then-one : (xs front : List ℕ) (n : ℕ) → n < length xs → front ≡ take n xs
    → length front ≡ n
    → ((k : ℕ) → k < length front → get_or front k 0 ≡ 0) → get_or xs n 0 ≡ 1
    → xs ≡ replicate n 0 ++ 1 ∷ drop (n + 1) xs
zeros-then-one xs front n l f size zeros one =
    let next : suc n ≡ n + 1 = omega arith in
    split-at xs n l
    ∙ (λ j. sym f j ++ one j ∷ drop (next j) xs)
    ∙ ap (λ z. z ++ 1 ∷ drop (n + 1) xs) (zeros-are front zeros ∙ ap (λ z. replicate z 0) size)

-- each of the zeros
pub zeros-before : (xs front rest : List ℕ) (n : ℕ) → front ≡ take n xs → length front ≡ n
    → xs ≡ replicate n 0 ++ 1 ∷ rest → (k : ℕ) → k < length front → get_or front k 0 ≡ 0
zeros-before xs front rest n f size e k l =
    let p : k < n = omega arith in
    ap (λ z. get_or z k 0) f ∙ take-octet xs n k p ∙ ap (λ z. get_or z k 0) e
    ∙ zero-of n (1 ∷ rest) k p

-- and the 1
pub one-after : (xs rest : List ℕ) (n : ℕ) → xs ≡ replicate n 0 ++ 1 ∷ rest → get_or xs n 0 ≡ 1
one-after xs rest n e = ap (λ z. get_or z n 0) e ∙ after-zeros n 1 rest

-- the data block and the place where a function counts its zeros
pub placed : (xs : List ℕ) (n m : ℕ) → n ≡ m → xs ≡ replicate m 0 ++ 1 ∷ drop (m + 1) xs
    → xs ≡ replicate n 0 ++ 1 ∷ drop (n + 1) xs
placed xs n m e h = h ∙ sym (λ j. replicate (e j) 0 ++ 1 ∷ drop (e j + 1) xs)
