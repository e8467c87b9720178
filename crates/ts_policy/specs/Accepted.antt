-- The accepted policies, given in place of the tree of RFC 5280, 6.1.5 (g), as a set of labels.
use Rattle.std.specs.Prelude.{◌≡◌, ◌≢◌, ℕ, Bool, true, false, ◌||◌, ◌&&◌, ◌==◌, nat_lt, List, []}
use Rattle.std.specs.Prelude.{◌∷◌, ◌++◌, MatchBool, ◌⊎◌}
use Rattle.ts_policy.specs.Labels.{Label, Path, any_policy, In, has, anys}

-- p is the first label of the path, from the trust anchor, that is not anyPolicy
abbrev pub IsFirstLabel : Label → Path → Type 0
IsFirstLabel p w = (p ≢ any_policy) × ((v : Path) × (k : ℕ) × (w ≡ v ++ (p ∷ anys k)))

-- some path of T has p as its first such label
abbrev pub IsFirstOf : (Path → Type 0) → Label → Type 0
IsFirstOf T p = (w : Path) × T w × IsFirstLabel p w

-- the list is empty
abbrev pub is_none : List Label → Bool
is_none [] = true
is_none (p ∷ ps) = false

-- p is accepted of the paths T of n labels, for a user's set of policies. A user who names none or
-- anyPolicy accepts the first labels, and anyPolicy where n times anyPolicy is a path. Another user
-- accepts of the own policies all where n times anyPolicy is a path, and else those that are first
-- labels.
abbrev pub IsAccepted : ℕ → (Path → Type 0) → List Label → Label → Type 0
IsAccepted n T user p =
    MatchBool (is_none user || has user any_policy)
    (IsFirstOf T p ⊎ ((p ≡ any_policy) × T (anys n)))
    (In p user × (T (anys n) ⊎ IsFirstOf T p))

-- the octets p come before q: lexicographically, and a prefix before what it begins
abbrev pub comes_before : Label → Label → Bool
comes_before [] [] = false
comes_before [] (y ∷ q) = true
comes_before (x ∷ p) [] = false
comes_before (x ∷ p) (y ∷ q) = nat_lt x y || ((x == y) && comes_before p q)

-- each label comes before all that follow it, so none is there twice
abbrev pub AreAscending : List Label → Type 0
AreAscending [] = Unit {0}
AreAscending (p ∷ ps) = ((q : Label) → In q ps → comes_before p q ≡ true) × AreAscending ps
