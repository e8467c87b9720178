-- Blanks at the end of a line.
use Rattle.std.proofs.Common.{◌≡◌, ℕ, true, false, List, [], ◌∷◌, ◌++◌, ◌≤◌, ◌-◌, ◌<◌, suc, length, get_or, take, refl, ap, ◌∙◌, sym, arith}
use Rattle.std.proofs.Math.Seq.{take-suc}
use Rattle.std.proofs.lemmas.List.{take_all}
use Rattle.ts_pem.specs.Pem.{without_blanks, in_front, is_blank}

-- a blank at the end does not count
pub trimmed-blank : (xs : List ℕ) (x : ℕ) → is_blank x ≡ true → without_blanks (xs ++ x ∷ []) ≡ without_blanks xs
unfolding without_blanks
trimmed-blank [] x blank = rw blank refl
trimmed-blank (y ∷ ys) x blank = ap (λ (rest : List ℕ). in_front y rest) (trimmed-blank ys x blank)

-- an octet behind a line
in_front-more : (y : ℕ) (ys : List ℕ) (x : ℕ) → in_front y (ys ++ x ∷ []) ≡ y ∷ (ys ++ x ∷ [])
in_front-more y [] x = refl
in_front-more y (z ∷ zs) x = refl

-- where the last octet is no blank nothing is taken away
pub trimmed-other : (xs : List ℕ) (x : ℕ) → is_blank x ≡ false
    → without_blanks (xs ++ x ∷ []) ≡ xs ++ x ∷ []
unfolding without_blanks
trimmed-other [] x other = rw other refl
trimmed-other (y ∷ ys) x other =
    ap (λ (rest : List ℕ). in_front y rest) (trimmed-other ys x other) ∙ in_front-more y ys x

-- a line is what is before its last octet, and that octet
with_last : (xs : List ℕ) → 1 ≤ length xs
    → xs ≡ take (length xs - 1) xs ++ get_or xs (length xs - 1) 0 ∷ []
with_last xs some =
    let below : length xs - 1 < length xs = omega arith in
    let whole : suc (length xs - 1) ≡ length xs = omega arith in
    sym (take_all (length xs) xs (omega arith))
    ∙ ap (λ (n : ℕ). take n xs) (sym whole) ∙ take-suc xs (length xs - 1) 0 below

pub trimmed_front : (xs : List ℕ) → 1 ≤ length xs → is_blank (get_or xs (length xs - 1) 0) ≡ true
    → without_blanks xs ≡ without_blanks (take (length xs - 1) xs)
trimmed_front xs some blank =
    ap without_blanks (with_last xs some)
    ∙ trimmed-blank (take (length xs - 1) xs) (get_or xs (length xs - 1) 0) blank

pub trimmed_whole : (xs : List ℕ) → 1 ≤ length xs → is_blank (get_or xs (length xs - 1) 0) ≡ false
    → without_blanks xs ≡ xs
trimmed_whole xs some other =
    ap without_blanks (with_last xs some)
    ∙ trimmed-other (take (length xs - 1) xs) (get_or xs (length xs - 1) 0) other
    ∙ sym (with_last xs some)

pub trimmed_none : (xs : List ℕ) → length xs ≤ 0 → without_blanks xs ≡ xs
unfolding without_blanks
trimmed_none [] none = refl
trimmed_none (x ∷ xs) none = absurd (omega arith)
