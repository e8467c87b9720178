-- The first dot of a name.
use Rattle.std.proofs.Common.{◌≡◌, ℕ, zero, suc, ◌+◌, ◌-◌, ◌<◌, ◌≤◌, true, false, not, cond, nat_lt, List, [], ◌∷◌, ◌++◌, length, get_or, take, drop, refl, ap, arith, sym, ◌∙◌, length-drop, add-one}
use Rattle.std.specs.Prelude.{Some, None, ◌&&◌}
use Rattle.std.specs.List.{position, position_or_len, prefix_len}
use Rattle.std.proofs.lemmas.List.{take_all}
use Rattle.std.proofs.lemmas.Bool.Decides.{nat_tests}
use Rattle.std.proofs.lemmas.List.Quantifiers.{position-Some}
use Rattle.ts_name.specs.Holds.{dot}
use Rattle.ts_verify.specs.Matching.{is_dotless}
use Rattle.ts_verify.specs.Hosts.{is_dot}

none_is : (a b : ℕ) → cond (nat_lt a b) (Some a) None ≡ None → b ≤ a
none_is a b e = grind (arith, nat_tests, e)

-- where all octets are passed none is a dot
dotless_whole : (xs : List ℕ) → length xs ≤ prefix_len (λ x. not (is_dot x)) xs
    → is_dotless xs ≡ true
dotless_whole [] few = refl
dotless_whole (x ∷ xs) few =
    (elim (not (is_dot x)) as (λ b. suc (length xs) ≤ cond b (1 + prefix_len (λ y. not (is_dot y)) xs) 0
    → b && is_dotless xs ≡ true) [
      | true ↦ λ h. dotless_whole xs (omega arith)
      | false ↦ λ h. absurd (omega arith)
    ]) few

pub no_dot : (xs : List ℕ) → position is_dot xs ≡ None → is_dotless xs ≡ true
no_dot xs found = dotless_whole xs (none_is (position_or_len is_dot xs) (length xs) found)

dot_is : (x : ℕ) → is_dot x ≡ true → x ≡ dot
dot_is x e = grind (arith, nat_tests, e)

-- the octets before and after a dot
split_at_dot : (xs : List ℕ) (i : ℕ) → i < length xs → is_dot (get_or xs i 0) ≡ true
    → xs ≡ take i xs ++ dot ∷ drop (suc i) xs
split_at_dot [] i few is = absurd (omega arith)
split_at_dot (x ∷ xs) zero few is = ap (λ (y : ℕ). y ∷ xs) (dot_is x is)
split_at_dot (x ∷ xs) (suc i) few is = ap (λ (ys : List ℕ). x ∷ ys) (split_at_dot xs i (omega arith) is)

dotless_front : (xs : List ℕ) (i : ℕ) → i < length xs
    → ((k : ℕ) → k < i → is_dot (get_or xs k 0) ≡ false) → is_dotless (take i xs) ≡ true
dotless_front [] i few none = absurd (omega arith)
dotless_front (x ∷ xs) zero few none = refl
dotless_front (x ∷ xs) (suc i) few none =
    let head : is_dot x ≡ false = none zero (omega arith) in
    let rest = dotless_front xs i (omega arith) (λ k (l : k < i). none (suc k) (omega arith)) in
    rw (head, rest) refl

pub first_dot : (xs : List ℕ) (i : ℕ) → position is_dot xs ≡ Some i
    → (xs ≡ take i xs ++ dot ∷ take (length xs - (i + 1)) (drop (i + 1) xs))
    × (is_dotless (take i xs) ≡ true)
first_dot xs i found =
    let h = position-Some is_dot xs i 0 found in
    let whole : take (length xs - (i + 1)) (drop (i + 1) xs) ≡ drop (i + 1) xs =
    take_all (length xs - (i + 1)) (drop (i + 1) xs) (omega (arith, length-drop (i + 1) xs)) in
    let after : drop (suc i) xs ≡ take (length xs - (i + 1)) (drop (i + 1) xs) =
    ap (λ (n : ℕ). drop n xs) (sym (add-one i)) ∙ sym whole in
    (split_at_dot xs i h.0 h.1 ∙ ap (λ (ys : List ℕ). take i xs ++ dot ∷ ys) after, dotless_front xs i h.0 h.2)
