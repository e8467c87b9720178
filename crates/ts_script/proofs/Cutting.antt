-- Octets that are cut at marks.
use Rattle.std.proofs.Common.{◌≡◌, ◌≢◌, ◌∙◌, refl, sym, subst, ℕ, ◌+◌, ◌<◌, true, false, Option, None, Some, is_some, option_map, List, [], ◌∷◌, length, take, drop, get_or, eqb, arith, eq-eqb}
use Rattle.std.specs.List.{AllByRecursion, position_or_len}
use Rattle.std.proofs.lemmas.List.Splits.{slice_split_first, slice_split_none, length-slice_split}
use Rattle.std.proofs.lemmas.List.Sums.{position_or_len_is}
use Rattle.std.proofs.lemmas.List.Elements.{All-from_get_or}
use Rattle.ts_script.specs.Pieces.{pieces_of, pieces_behind}

-- a test for a mark that fails
test_fails : (x mark : ℕ) → x ≢ mark → eqb x mark ≡ false
test_fails x mark other = grind arith

-- where none of the octets before a mark is one, the first piece ends there
pub cut_at : (mark : ℕ) (octets : List ℕ) (at : ℕ) → at < length octets → ((k : ℕ) → k < at → get_or octets k 0 ≡ mark → ⊥)
    → get_or octets at 0 ≡ mark → pieces_of mark octets ≡ take at octets ∷ pieces_of mark (drop (at + 1) octets)
cut_at mark octets at within before is =
    let first = position_or_len_is (λ x. eqb x mark) octets at 0 (omega arith) (λ k below. test_fails _ mark (before k below)) (λ _. eq-eqb (get_or octets at 0) mark is) in
    let room : position_or_len (λ x. eqb x mark) octets < length octets = omega (arith, first) in
    let cut = slice_split_first (λ x. eqb x mark) octets 0 room in
    rw first at cut

-- where none is, there is one piece
pub not_cut : (mark : ℕ) (octets : List ℕ) → ((k : ℕ) → k < length octets → get_or octets k 0 ≡ mark → ⊥) → pieces_of mark octets ≡ octets ∷ []
not_cut mark octets none =
    slice_split_none (λ x. eqb x mark) octets (All-from_get_or (λ x. eqb x mark ≡ false) octets 0 (λ k within. test_fails _ mark (none k within)))

-- a fact holds of all of the one list exactly where it does of all of the other
pub record SameAll (P : List ℕ → Type 0) (xs ys : List (List ℕ)) : Type 0 where
  pub back : AllByRecursion P ys → AllByRecursion P xs
  pub on : AllByRecursion P xs → AllByRecursion P ys

pub SameAll-start : (P : List ℕ → Type 0) (xs : List (List ℕ)) → SameAll P xs xs
SameAll-start P xs = record { back = λ h. h; on = λ h. h }

pub SameAll-next : (P : List ℕ → Type 0) (xs ys zs : List (List ℕ)) (y : List ℕ) → ys ≡ y ∷ zs → P y → SameAll P xs ys → SameAll P xs zs
SameAll-next P xs ys zs y is here same = record {
  back = λ h. same.back (subst (AllByRecursion P) (sym is) (here, h));
  on = λ h. (subst (AllByRecursion P) is (same.on h)).1;
}

pub SameAll-stops : (P : List ℕ → Type 0) (xs ys zs : List (List ℕ)) (y : List ℕ) → ys ≡ y ∷ zs → ¬ (P y) → SameAll P xs ys → ¬ (AllByRecursion P xs)
SameAll-stops P xs ys zs y is not_here same = λ h. not_here (subst (AllByRecursion P) is (same.on h)).0

pub SameAll-end : (P : List ℕ → Type 0) (xs ys : List (List ℕ)) → ys ≡ [] → SameAll P xs ys → AllByRecursion P xs
SameAll-end P xs ys is same = same.back (subst (AllByRecursion P) (sym is) tt)

-- what follows two words
pub behind_two : {left more more' : List (List ℕ)} {k w k' w' : List ℕ} → left ≡ k ∷ w ∷ more → left ≡ k' ∷ w' ∷ more' → more ≡ more'
behind_two e f = cc (sym e ∙ f)

-- the second of them
pub second_word : {left more more' : List (List ℕ)} {k w k' w' : List ℕ} → left ≡ k ∷ w ∷ more → left ≡ k' ∷ w' ∷ more' → w ≡ w'
second_word e f = cc (sym e ∙ f)

-- there is a piece
pub pieces_some : (mark : ℕ) (octets : List ℕ) → pieces_of mark octets ≢ []
pieces_some mark octets none =
    let count = length-slice_split (λ x. eqb x mark) octets in
    let empty : length (pieces_of mark octets) ≡ 0 = rw none refl in
    absurd (omega (arith, count, empty))

pub behind_some : {T : Type 0} (f : T → List ℕ) (mark : ℕ) (o : Option T) → is_some o ≡ true → pieces_behind mark (option_map f o) ≢ []
behind_some f mark None is = cc is
behind_some f mark (Some x) is = pieces_some mark (f x)

pub behind_none : {T : Type 0} (f : T → List ℕ) (mark : ℕ) (o : Option T) → is_some o ≡ false → pieces_behind mark (option_map f o) ≡ []
behind_none f mark None is = refl
behind_none f mark (Some x) is = cc is

-- a list without elements, and one with some
pub no_items : (xs : List ℕ) → length xs ≡ 0 → xs ≡ []
no_items [] e = refl
no_items (x ∷ xs) e = absurd (omega arith)

pub some_items : (xs : List ℕ) → length xs ≢ 0 → xs ≢ []
some_items [] e = absurd (e refl)
some_items (x ∷ xs) e = λ none. absurd cc
