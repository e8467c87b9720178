-- The leaf among certificates that are given in any order: the first that issued none of the
-- others, by their names.
use Rattle.std.specs.Prelude.{◌≡◌, ◌≢◌, ◌<◌, ◌⊎◌, ℕ, false, List, ◌∷◌, ◌++◌, length}
use Rattle.ts_cert.specs.Certificate.{Certificate}
use Rattle.ts_search.specs.Candidates.{issues}

-- the subject of the certificate at this place, counted from 0, is not the issuer of another
abbrev pub IssuesNone : List Certificate → ℕ → Type 0
IssuesNone certificates i = (j : ℕ) → j < length certificates → j ≢ i
    → issues certificates i j ≡ false

-- the first that issued none of the others; where each issued another, the first of all
abbrev pub IsLeafPlace : List Certificate → ℕ → Type 0
IsLeafPlace certificates i =
    (IssuesNone certificates i × ((k : ℕ) → k < i → ¬ (IssuesNone certificates k)))
    ⊎ ((i ≡ 0) × ((k : ℕ) → k < length certificates → ¬ (IssuesNone certificates k)))

-- the leaf comes first, and then the others in their order
pub record IsLeafFirst (certificates ordered : List Certificate) : Type 0 where
  pub before : List Certificate
  pub leaf : Certificate
  pub behind : List Certificate
  pub certificates_are : certificates ≡ before ++ leaf ∷ behind
  pub place : IsLeafPlace certificates (length before)
  pub ordered_are : ordered ≡ leaf ∷ (before ++ behind)
