-- A page of lists that stand one behind another.
use Rattle.std.proofs.Common.{◌*◌, ◌≡◌, ◌∙◌, ◌++◌, ◌∷◌, ◌-◌, ◌+◌, ◌≤◌, ℕ, zero, suc, List, [], map, take, drop, length, refl, sym, ap, arith, inl, inr, length-take}
use Rattle.std.specs.Prelude.{min}
use Rattle.std.proofs.Math.ListN.{drop_of_length-le}
use Rattle.std.proofs.Math.Nat.{min-eq_left, min-eq_right}
use Rattle.std.proofs.lemmas.Bool.{cases_lt}
use Rattle.std.proofs.lemmas.List.{take_all, take-append-drop}
use Rattle.ts_listing.specs.Page.{join_pages}

take_none : {A : Type 0} (m : ℕ) → take {A = A} m [] ≡ []
take_none zero = refl
take_none (suc m) = refl

drop_none : {A : Type 0} (f : ℕ) → drop {A = A} f [] ≡ []
drop_none zero = refl
drop_none (suc f) = refl

pub map_drop : {A B : Type 0} (g : A → B) (f : ℕ) (xs : List A) → map g (drop f xs) ≡ drop f (map g xs)
map_drop g zero xs = refl
map_drop g (suc f) [] = refl
map_drop g (suc f) (x ∷ xs) = map_drop g f xs

pub map_take : {A B : Type 0} (g : A → B) (m : ℕ) (xs : List A) → map g (take m xs) ≡ take m (map g xs)
map_take g zero xs = refl
map_take g (suc m) [] = refl
map_take g (suc m) (x ∷ xs) = ap (λ l. g x ∷ l) (map_take g m xs)

-- the front of two lists: of the first, and of the second as many as there is room for
front : {A : Type 0} (m : ℕ) (xs ys : List A) → take m (xs ++ ys) ≡ take m xs ++ take (m - length (take m xs)) ys
front zero xs ys = refl
front (suc m) [] ys = ap (λ n. take n ys) (let e : suc m ≡ suc m - 0 = omega arith in e)
front (suc m) (x ∷ xs) ys = ap (λ l. x ∷ l) (front m xs ys ∙ ap (λ n. take m xs ++ take n ys) (omega arith))

-- so many left out
pub window : {A : Type 0} (m f : ℕ) (xs ys : List A) → take m (drop f (xs ++ ys)) ≡ take m (drop f xs) ++ take (m - length (take m (drop f xs))) (drop (f - length xs) ys)
window m zero xs ys = front m xs ys ∙ ap (λ n. take m xs ++ take (m - length (take m xs)) (drop n ys)) (let e : 0 ≡ 0 - length xs = omega arith in e)
window {A} m (suc f) [] ys =
    ap (λ k. take k (drop (suc f) ys)) (let e : m ≡ m - 0 = omega arith in e)
    ∙ ap (λ n. take (m - 0) (drop n ys)) (let e : suc f ≡ suc f - 0 = omega arith in e)
    ∙ ap (λ (l : List A). l ++ take (m - length l) (drop (suc f - 0) ys)) (sym (take_none m))
window m (suc f) (x ∷ xs) ys =
    window m f xs ys
    ∙ ap (λ n. take m (drop f xs) ++ take (m - length (take m (drop f xs))) (drop n ys)) (let e : f - length xs ≡ suc f - suc (length xs) = omega arith in e)

-- ---- fronts and ends, however long

pub drop_min : {A : Type 0} (f : ℕ) (xs : List A) → drop (min f (length xs)) xs ≡ drop f xs
drop_min f xs = elim (cases_lt f (length xs)) [
  | inl lt ↦ ap (λ n. drop n xs) (min-eq_left (omega (arith, lt)))
  | inr le ↦ ap (λ n. drop n xs) (min-eq_right le) ∙ drop_of_length-le xs (omega arith) ∙ sym (drop_of_length-le xs le)
]

pub take_min : {A : Type 0} (m : ℕ) (xs : List A) → take (min m (length xs)) xs ≡ take m xs
take_min m xs = elim (cases_lt m (length xs)) [
  | inl lt ↦ ap (λ n. take n xs) (min-eq_left (omega (arith, lt)))
  | inr le ↦ ap (λ n. take n xs) (min-eq_right le) ∙ take_all (length xs) xs (omega arith) ∙ sym (take_all m xs le)
]

pub length_cut : (xs : List ℕ) → length (take 4096 xs) ≤ 4096
length_cut xs = omega (arith, length-take 4096 xs)

-- ---- sums that four octets hold

over : (x y : ℕ) → 4294967295 ≤ x → 4294967295 ≤ y → min x 4294967295 ≡ min y 4294967295
over x y h k = min-eq_right h ∙ sym (min-eq_right k)

pub sums : (a b c : ℕ) → min (min a 4294967295 + min b 4294967295 + min c 4294967295) 4294967295 ≡ min (a + (b + c)) 4294967295
sums a b c = elim (cases_lt a 4294967295) [
  | inr big ↦ over (min a 4294967295 + min b 4294967295 + min c 4294967295) (a + (b + c)) (let e = min-eq_right big in omega (arith, e)) (omega (arith, big))
  | inl la ↦ elim (cases_lt b 4294967295) [
    | inr big ↦ over (min a 4294967295 + min b 4294967295 + min c 4294967295) (a + (b + c)) (let e = min-eq_right big in omega (arith, e)) (omega (arith, big))
    | inl lb ↦ elim (cases_lt c 4294967295) [
      | inr big ↦ over (min a 4294967295 + min b 4294967295 + min c 4294967295) (a + (b + c)) (let e = min-eq_right big in omega (arith, e)) (omega (arith, big))
      | inl lc ↦
          let x : min a 4294967295 ≡ a = min-eq_left (omega (arith, la)) in
          let y : min b 4294967295 ≡ b = min-eq_left (omega (arith, lb)) in
          let z : min c 4294967295 ≡ c = min-eq_left (omega (arith, lc)) in
          ap (λ n. min n 4294967295) (let e : min a 4294967295 + min b 4294967295 + min c 4294967295 ≡ a + (b + c) = omega (arith, x, y, z) in e)
    ]
  ]
]

-- ---- one page after another

further : {A : Type 0} (m f : ℕ) (xs : List A) → drop (f + m) xs ≡ drop m (drop f xs)
further m zero xs = ap (λ n. drop n xs) (let e : 0 + m ≡ m = omega arith in e)
further {A} m (suc f) [] = ap (λ n. drop {A = A} n []) (let e : suc f + m ≡ suc (f + m) = omega arith in e) ∙ sym (drop_none m)
further m (suc f) (x ∷ xs) = ap (λ n. drop n (x ∷ xs)) (let e : suc f + m ≡ suc (f + m) = omega arith in e) ∙ further m f xs

-- what is left after some rows
joined_rest : (n f : ℕ) (rows : List (List ℕ)) → length rows ≤ f + 64 * n → join_pages n f rows ≡ drop f rows
unfolding join_pages
joined_rest zero f rows few = sym (drop_of_length-le rows (omega (arith, few)))
joined_rest (suc n) f rows few =
    ap (λ l. take 64 (drop f rows) ++ l) (joined_rest n (f + 64) rows (omega (arith, few)) ∙ further 64 f rows)
    ∙ take-append-drop 64 (drop f rows)

pub joined_all : (n : ℕ) (rows : List (List ℕ)) → length rows ≤ 64 * n → join_pages n 0 rows ≡ rows
joined_all n rows few = joined_rest n 0 rows (omega (arith, few))
