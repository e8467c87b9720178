-- Lengths that their octets hold.
use Rattle.std.proofs.Common.{◌≡◌, ◌<◌, ◌≤◌, ℕ, zero, suc, true, List, [], ◌∷◌, length, get_or, map, ap, ◌∙◌, arith}
use Rattle.std.specs.List.{list_all}
use Rattle.std.specs.Prelude.{nat_le}
use Rattle.std.proofs.lemmas.Bool.{leb-true}
use Rattle.ts_codec.proofs.Truths.{first_true, second_true}

-- where all strings are short, each is
pub short_at : {A : Type 0} (f : A → List ℕ) (most : ℕ) (xs : List A) (i : ℕ) (x : A)
    → list_all (λ s. nat_le (length s) most) (map f xs) ≡ true → i < length xs → x ≡ get_or xs i x
    → length (f x) ≤ most
short_at f most [] i x all within is = absurd (omega (arith, within))
short_at {A} f most (y ∷ ys) zero x all within is =
    leb-true (length (f x)) most (ap (λ (z : A). nat_le (length (f z)) most) is ∙ first_true (nat_le (length (f y)) most) (list_all (λ s. nat_le (length s) most) (map f ys)) all)
short_at f most (y ∷ ys) (suc i) x all within is =
    short_at f most ys i x (second_true (nat_le (length (f y)) most) (list_all (λ s. nat_le (length s) most) (map f ys)) all) (omega (arith, within)) is
