-- What a wildcard stands for.
use Rattle.std.proofs.Common.{◌≡◌, ℕ, ◌≤◌, true, false, not, List, [], ◌∷◌, ◌++◌, length, refl, ap, arith, sym, ◌∙◌, subst}
use Rattle.std.specs.Prelude.{◌==◌, ◌&&◌}
use Rattle.std.proofs.lemmas.Bool.{false≢true, eqb-true}
use Rattle.ts_name.specs.Holds.{dot, lower}
use Rattle.ts_verify.specs.Matching.{is_dotless, IsUnderWildcard}

-- a dot is no octet of a label
no_label : (c : ℕ) (b : List ℕ) → dot ≡ c → is_dotless (c ∷ b) ≡ true → ⊥
no_label c b is less = false≢true (subst (λ (n : ℕ). is_dotless (n ∷ b) ≡ true) (sym is) less)

dotless_tail : (c : ℕ) (b : List ℕ) → is_dotless (c ∷ b) ≡ true → is_dotless b ≡ true
dotless_tail c b less =
    (elim (not (c == dot)) as (λ t. t && is_dotless b ≡ true → is_dotless b ≡ true) [
      | true ↦ λ h. h
      | false ↦ λ h. absurd (false≢true h)
    ]) less

-- a name has one first label
one_first_label : (a x b y : List ℕ) → is_dotless a ≡ true → is_dotless b ≡ true
    → a ++ dot ∷ x ≡ b ++ dot ∷ y → (a ≡ b) × (x ≡ y)
one_first_label [] x [] y p q e = (refl, (cc))
one_first_label [] x (c ∷ b) y p q e = let is : dot ≡ c = cc in absurd (no_label c b is q)
one_first_label (d ∷ a) x [] y p q e = let is : dot ≡ d = cc in absurd (no_label d a is p)
one_first_label (d ∷ a) x (c ∷ b) y p q e =
    let head : d ≡ c = cc in
    let tails : a ++ dot ∷ x ≡ b ++ dot ∷ y = cc in
    let both = one_first_label a x b y (dotless_tail d a p) (dotless_tail c b q) tails in
    (ap (λ (n : ℕ). n ∷ a) head ∙ ap (λ (ns : List ℕ). c ∷ ns) both.0, both.1)

-- a pattern and a host that are cut at their first dots: what is left to ask
pub is_under : (pattern host rest label others : List ℕ) → pattern ≡ 42 ∷ dot ∷ rest
    → host ≡ label ++ dot ∷ others → is_dotless label ≡ true → 1 ≤ length label
    → lower others ≡ lower rest → IsUnderWildcard pattern host
is_under pattern host rest label others cut parted less some same = record {
  rest = rest;
  label = label;
  others = others;
  pattern_is = cut;
  host_is = parted;
  one_label = (some, less);
  same = same;
}

pub wildcard_parts : (pattern host rest label others : List ℕ) → pattern ≡ 42 ∷ dot ∷ rest
    → host ≡ label ++ dot ∷ others → is_dotless label ≡ true → IsUnderWildcard pattern host
    → (1 ≤ length label) × (lower others ≡ lower rest)
wildcard_parts pattern host rest label others cut parted less under =
    let both = one_first_label label others under.label under.others less under.one_label.1
    (sym parted ∙ under.host_is) in
    let cuts : 42 ∷ dot ∷ rest ≡ 42 ∷ dot ∷ under.rest = sym cut ∙ under.pattern_is in
    let rests : rest ≡ under.rest = cc in (
      subst (λ (l : List ℕ). 1 ≤ length l) (sym both.0) under.one_label.0,
      ap lower both.1 ∙ under.same ∙ ap lower (sym rests),
    )

-- a label is empty or not
pub some_octet : (label : List ℕ) → (length label == 0) ≡ false → 1 ≤ length label
some_octet [] e = absurd (false≢true (sym e))
some_octet (x ∷ xs) e = omega arith

pub no_octet : (label : List ℕ) → (length label == 0) ≡ true → 1 ≤ length label → ⊥
no_octet label e some = let none = eqb-true (length label) 0 e in omega (arith, none)
