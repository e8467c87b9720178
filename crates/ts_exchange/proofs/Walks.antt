-- Pages that are asked for one after another.
use Rattle.std.proofs.Common.{◌≡◌, ◌∙◌, ◌++◌, ◌∷◌, ◌+◌, ◌*◌, ◌-◌, ◌≤◌, ◌<◌, ℕ, zero, suc, Bool, true, false, List, [], take, drop, length, refl, sym, ap, arith, inl, inr, length-take, length-drop}
use Rattle.std.specs.Prelude.{min, if◌then◌else◌}
use Rattle.std.proofs.Math.Bool.{and-false}
use Rattle.std.proofs.Math.Nat.{min-eq_left, min-eq_right}
use Rattle.std.proofs.lemmas.Bool.{cases_lt, le-ltb, lt-ltb}
use Rattle.std.proofs.lemmas.List.{append-nil, take_all, take-append-drop}
use Rattle.std.specs.Prelude.{◌==◌, ◌&&◌, not, nat_lt}
use Rattle.ts_exchange.specs.Walk.{behind, goes_on, has_more, next_from, walked}

drop_none : {A : Type 0} (f : ℕ) → drop {A = A} f [] ≡ []
drop_none zero = refl
drop_none (suc f) = refl

further : {A : Type 0} (m f : ℕ) (xs : List A) → drop (f + m) xs ≡ drop m (drop f xs)
further m zero xs = ap (λ n. drop n xs) (let e : 0 + m ≡ m = omega arith in e)
further {A} m (suc f) [] = ap (λ n. drop {A = A} n []) (let e : suc f + m ≡ suc (f + m) = omega arith in e) ∙ sym (drop_none m)
further m (suc f) (x ∷ xs) = ap (λ n. drop n (x ∷ xs)) (let e : suc f + m ≡ suc (f + m) = omega arith in e) ∙ further m f xs

-- how many rows a page has
counted : (from : ℕ) (rows : List (List ℕ)) → length (take 64 (drop from rows)) ≡ min 64 (length rows - from)
counted from rows = length-take 64 (drop from rows) ∙ ap (min 64) (length-drop from rows)

-- a page behind which there are more
full : (from : ℕ) (rows : List (List ℕ)) → from + 64 < length rows → length (take 64 (drop from rows)) ≡ 64
full from rows lt = counted from rows ∙ min-eq_left (omega (arith, lt))

next : (from : ℕ) (rows : List (List ℕ)) → length rows ≤ 4294967295 → from + 64 < length rows → behind from rows ≡ from + 64
next from rows few lt =
    ap (λ c. min (from + c) 4294967295) (full from rows lt) ∙ min-eq_left (omega (arith, lt, few))

more : (from : ℕ) (rows : List (List ℕ)) → length rows ≤ 4294967295 → from + 64 < length rows → has_more from rows ≡ true
more from rows few lt =
    ap (λ b. goes_on b (min (length rows) 4294967295) (length (take 64 (drop from rows)))) (next from rows few lt)
    ∙ ap (λ c. goes_on (from + 64) (min (length rows) 4294967295) c) (full from rows lt)
    ∙ ap (λ t. goes_on (from + 64) t 64) (min-eq_left few)
    ∙ lt-ltb (from + 64) (length rows) lt

-- the last page
no_more : (from : ℕ) (rows : List (List ℕ)) → length rows ≤ from + 64 → has_more from rows ≡ false
no_more from rows le = elim (cases_lt from (length rows)) [
  | inl lt ↦
      let n : length (take 64 (drop from rows)) ≡ length rows - from = counted from rows ∙ min-eq_right (omega (arith, le)) in
      let e : from + length (take 64 (drop from rows)) ≡ length rows = omega (arith, n, lt) in
      ap (λ b. goes_on b (min (length rows) 4294967295) (length (take 64 (drop from rows)))) (ap (λ c. min c 4294967295) e)
      ∙ ap (λ b. not (length (take 64 (drop from rows)) == 0) && b) (le-ltb (min (length rows) 4294967295) (min (length rows) 4294967295) (omega arith))
      ∙ and-false (not (length (take 64 (drop from rows)) == 0))
  | inr ge ↦
      let n : length (take 64 (drop from rows)) ≡ 0 = counted from rows ∙ min-eq_right (omega (arith, ge)) ∙ (let e : length rows - from ≡ 0 = omega (arith, ge) in e) in
      ap (λ c. goes_on (behind from rows) (min (length rows) 4294967295) c) n
]

last : (pages from : ℕ) (rows : List (List ℕ)) → length rows ≤ from + 64 → walked (suc pages) from rows ≡ drop from rows
unfolding walked
last pages from rows le =
    ap (λ b. take 64 (drop from rows) ++ (if b then walked pages (behind from rows) rows else [])) (no_more from rows le)
    ∙ append-nil (take 64 (drop from rows))
    ∙ take_all 64 (drop from rows) (omega (arith, le, length-drop from rows))

pub all_of : (pages from : ℕ) (rows : List (List ℕ)) → length rows ≤ 4294967295 → length rows ≤ from + 64 * suc pages → walked (suc pages) from rows ≡ drop from rows
unfolding walked
all_of zero from rows few enough = last zero from rows (omega (arith, enough))
all_of (suc pages) from rows few enough = elim (cases_lt (from + 64) (length rows)) [
  | inr le ↦ last (suc pages) from rows le
  | inl lt ↦
      ap (λ b. take 64 (drop from rows) ++ (if b then walked (suc pages) (behind from rows) rows else [])) (more from rows few lt)
      ∙ ap (λ f. take 64 (drop from rows) ++ walked (suc pages) f rows) (next from rows few lt)
      ∙ ap (λ l. take 64 (drop from rows) ++ l) (all_of pages (from + 64) rows few (omega (arith, enough)) ∙ further 64 from rows)
      ∙ take-append-drop 64 (drop from rows)
]
