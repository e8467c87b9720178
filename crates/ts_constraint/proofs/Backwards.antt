-- The octets of texts from their ends on.
use Rattle.std.proofs.Common.{◌≡◌, ℕ, suc, ◌+◌, ◌-◌, ◌<◌, ◌≤◌, Bool, true, false, cond, List, [], ◌∷◌, ◌++◌, length, take, get_or, refl, sym, ap, ◌∙◌, arith}
use Rattle.std.specs.Char.{to_ascii_lowercase}
use Rattle.ts_constraint.specs.inside.Ending.{backwards}

pub empty-dotted : (text : List ℕ) (dotted : Bool) → length text < 1 → dotted ≡ true → backwards text dotted ≡ 46 ∷ backwards text false
empty-dotted [] dotted h e = ap (backwards []) e
empty-dotted (x ∷ xs) dotted h e = absurd (omega arith)

pub empty-plain : (text : List ℕ) (dotted : Bool) → length text < 1 → dotted ≡ false → backwards text dotted ≡ []
empty-plain [] dotted h e = ap (backwards []) e
empty-plain (x ∷ xs) dotted h e = absurd (omega arith)

-- the last octet is the first from the end on
pub last-first : (text : List ℕ) (dotted : Bool) → 1 ≤ length text
    → backwards text dotted ≡ to_ascii_lowercase (get_or text (length text - 1) 0) ∷ backwards (take (length text - 1) text) dotted
last-first [] dotted h = absurd (omega arith)
last-first (x ∷ []) dotted h = refl
last-first (x ∷ y ∷ rest) dotted h =
    let tail : List ℕ = to_ascii_lowercase x ∷ cond dotted (46 ∷ []) [] in
    let n : length (x ∷ y ∷ rest) - 1 ≡ suc (length (y ∷ rest) - 1) = omega arith in
    ap (λ (xs : List ℕ). xs ++ tail) (last-first (y ∷ rest) false (omega arith))
    ∙ ap (λ (k : ℕ). to_ascii_lowercase (get_or (x ∷ y ∷ rest) k 0) ∷ backwards (take k (x ∷ y ∷ rest)) dotted) (sym n)
