-- What private clauses see of a search for one connection: of the one that was found so far and one
-- more, which is found now. Each is a slot and the moment when its connection was accepted.
use Rattle.std.specs.Prelude.{◌≡◌, ◌⊎◌, ◌≤◌, ℕ, IfSome, Option, Some}

-- it is one of the two
abbrev pub IsOneOf : Option (ℕ × ℕ) → ℕ × ℕ → ℕ × ℕ → Type 0
IsOneOf found one best = (found ≡ Some best) ⊎ (best ≡ one)

-- It is the one that has waited longest: neither was accepted before it. Of two that were
-- accepted at one moment it is the one that was found.
pub record IsEarlier (found : Option (ℕ × ℕ)) (one best : ℕ × ℕ) : Type 0 where
  pub is_one : IsOneOf found one best
  pub not_behind_one : best.1 ≤ one.1
  pub not_behind_found : IfSome found (λ f. best.1 ≤ f.1)
  pub at_one_moment : IfSome found (λ f. f.1 ≡ one.1 → best ≡ f)

-- It is the one that came last: neither was accepted after it. Of two that were accepted at
-- one moment it is not the one that was found.
pub record IsLater (found : Option (ℕ × ℕ)) (one best : ℕ × ℕ) : Type 0 where
  pub is_one : IsOneOf found one best
  pub not_before_one : one.1 ≤ best.1
  pub not_before_found : IfSome found (λ f. f.1 ≤ best.1)
  pub at_one_moment : IfSome found (λ f. f.1 ≡ one.1 → best ≡ one)
