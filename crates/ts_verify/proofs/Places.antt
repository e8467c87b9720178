-- Places in lists.
use Rattle.std.proofs.Common.{◌≡◌, ◌==◌, ◌||◌, Bool, not, ℕ, suc, ◌-◌, ◌<◌, ◌≤◌, List, [], ◌∷◌, ◌++◌, map, length, get_or, take}
use Rattle.std.proofs.Common.{drop, drop-cons, Option, Some, None, option_map, slice_get, refl, sym, ap, ◌∙◌, arith}
use Rattle.std.proofs.lemmas.List.{length-map, take-append-drop, take_all}
use Rattle.std.proofs.lemmas.Option.{slice_get-map, slice_get_read}
use Rattle.std.specs.Prelude.{IfSome, unwrap_or}

-- what is before and behind a place
pub split_at_place : {X : Type 0} (xs : List X) (i : ℕ) (x : X) → i < length xs → x ≡ get_or xs i x
    → xs ≡ take i xs ++ x ∷ drop (suc i) xs
split_at_place {X} xs i x few is =
    sym (take-append-drop i xs)
    ∙ ap (λ (ys : List X). take i xs ++ ys) (drop-cons xs i x few ∙ ap (λ (y : X). y ∷ drop (suc i) xs) (sym is))

-- what is at a place
pub at_place : {X Y : Type 0} (f : X → Y) (xs : List X) (i : ℕ) (x : X) → i < length xs
    → x ≡ get_or xs i x → slice_get (map f xs) i ≡ Some (f x)
at_place f xs i x few is = slice_get-map f xs i ∙ ap (option_map f) (slice_get_read xs (length xs) i x refl few is)

pub at_middle : {X : Type 0} (xs ys : List X) (x : X) → slice_get (xs ++ x ∷ ys) (length xs) ≡ Some x
at_middle [] ys x = refl
at_middle (z ∷ xs) ys x = at_middle xs ys x

pub or_first : (o : Option ℕ) (n : ℕ) → 1 ≤ n → IfSome o (λ place. place < n) → unwrap_or o 0 < n
or_first None n some within = omega arith
or_first (Some place) n some within = within

-- a list is its first and what is behind it
pub front_is : {A : Type 0} (xs : List A) (x : A) → 1 ≤ length xs → x ≡ get_or xs 0 x → x ∷ take (length xs - 1) (drop 1 xs) ≡ xs
front_is [] x some is = absurd (omega (arith, some))
front_is (y ∷ ys) x some is =
    let n : length (y ∷ ys) - 1 ≡ length ys = omega arith in
    let e = ap (λ k. take k ys) n ∙ take_all (length ys) ys (omega arith) in
    λ i. is i ∷ e i

-- whether there is any, in one list or in another
pub any_in_either : {X Y : Type 0} (f : X → Y) (xs ys : List X) (r : Bool)
    → r ≡ (not (length xs == 0) || not (length ys == 0))
    → r ≡ (not (length (map f xs) == 0) || not (length (map f ys) == 0))
any_in_either f xs ys r is = is ∙ sym (λ i. not (length-map xs f i == 0) || not (length-map ys f i == 0))
