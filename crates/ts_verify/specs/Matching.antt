-- When a name of a certificate is that of a host (RFC 9525 6.3, 6.4).
use Rattle.std.specs.Prelude.{◌≡◌, ◌≤◌, ◌⊎◌, ℕ, ◌==◌, Bool, true, not, List, ◌∷◌, ◌++◌, length}
use Rattle.std.specs.List.{list_all}
use Rattle.ts_name.specs.Holds.{lower, dot}

-- no octet is a dot
abbrev pub is_dotless : List ℕ → Bool
is_dotless text = list_all (λ octet. not (octet == dot)) text

-- A wildcard is the whole left-most label of the pattern, and labels follow it. It stands for
-- exactly one label of the host; the others are those of the pattern, whatever the case of letters.
pub record IsUnderWildcard (pattern host : List ℕ) : Type 0 where
  pub rest : List ℕ
  pub label : List ℕ
  pub others : List ℕ
  -- the pattern is an asterisk, a dot and the rest
  pub pattern_is : pattern ≡ 42 ∷ dot ∷ rest
  pub host_is : host ≡ label ++ dot ∷ others
  pub one_label : (1 ≤ length label) × (is_dotless label ≡ true)
  pub same : lower others ≡ lower rest

-- A dNSName matches a host that has its labels, whatever the case of letters, or that it stands for
-- by a wildcard. No host has an asterisk, so that one anywhere else in a pattern matches nothing.
abbrev pub Matches : List ℕ → List ℕ → Type 0
Matches pattern host = (lower pattern ≡ lower host) ⊎ IsUnderWildcard pattern host
