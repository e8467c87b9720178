-- What is shown as it is.
use Rattle.std.proofs.Common.{◌≡◌, ℕ, ◌+◌, ◌<◌, ◌^◌, ◌%◌, List, [], ◌∷◌, ◌++◌, refl, ap, ◌∙◌, true, arith}
use Rattle.std.specs.Fmt.{decimal}
use Rattle.std.specs.List.{flat_map, list_all}
use Rattle.std.proofs.lemmas.Bool.{and_parts}
use Rattle.std.proofs.lemmas.Fmt.{decimal_by_steps}
use Rattle.std.proofs.lemmas.Grind.{flat_map-append}
use Rattle.ts_line.specs.Lines.{is_printable, printable, shown_octet, kept, kept_octet}

pub shown_append : (xs ys : List ℕ) → printable (xs ++ ys) ≡ printable xs ++ printable ys
shown_append xs ys = flat_map-append shown_octet xs ys

-- a way to show octets that leaves digits as they are leaves numbers as they are
one_digit : (f : ℕ → List ℕ) → ((n : ℕ) → n < 10 → f (48 + n) ≡ (48 + n) ∷ []) → (n : ℕ) → n < 10 → flat_map f ((48 + n) ∷ []) ≡ (48 + n) ∷ []
one_digit f digits n small = ap (λ (ds : List ℕ). ds ++ []) (digits n small)

one_more : (f : ℕ → List ℕ) → ((n : ℕ) → n < 10 → f (48 + n) ≡ (48 + n) ∷ []) → (n : ℕ) (ds : List ℕ) → flat_map f ds ≡ ds → flat_map f (ds ++ ((48 + n % 10) ∷ [])) ≡ ds ++ ((48 + n % 10) ∷ [])
one_more f digits n ds before =
    let small : n % 10 < 10 = omega arith in
    flat_map-append f ds ((48 + n % 10) ∷ []) ∙ rw (before, one_digit f digits (n % 10) small) refl

decimal_by : (f : ℕ → List ℕ) → ((n : ℕ) → n < 10 → f (48 + n) ≡ (48 + n) ∷ []) → (n : ℕ) → n < 2 ^ 64 → flat_map f (decimal n) ≡ decimal n
decimal_by f digits n small = decimal_by_steps (λ n ds. flat_map f ds ≡ ds) (one_digit f digits) (λ n ds le before. one_more f digits n ds before) n small

shown_digit : (n : ℕ) → n < 10 → shown_octet (48 + n) ≡ (48 + n) ∷ []
shown_digit n small = grind arith

pub shown_decimal : (n : ℕ) → n < 2 ^ 64 → printable (decimal n) ≡ decimal n
shown_decimal n small = decimal_by shown_octet shown_digit n small

kept_digit : (n : ℕ) → n < 10 → kept_octet (48 + n) ≡ (48 + n) ∷ []
kept_digit n small = grind arith

pub kept_decimal : (n : ℕ) → n < 2 ^ 64 → kept (decimal n) ≡ decimal n
kept_decimal n small = decimal_by kept_octet kept_digit n small

-- printable characters are kept
kept_one : (x : ℕ) → is_printable x ≡ true → kept_octet x ≡ x ∷ []
kept_one x is = rw is refl

pub kept_printable : (xs : List ℕ) → list_all is_printable xs ≡ true → kept xs ≡ xs
kept_printable [] all = refl
kept_printable (x ∷ xs) all =
    let parts = and_parts (is_printable x) (list_all is_printable xs) all in
    rw (kept_one x parts.0, kept_printable xs parts.1) refl
