-- The octets 20 that a text in canonical form leaves out, seen from front to back.
use Rattle.std.specs.Prelude.{ℕ, Bool, false, ◌==◌, ◌||◌, not, if◌then◌else◌, List, [], ◌∷◌}

-- a word begins here
abbrev pub at_word : List ℕ → Bool
at_word [] = false
at_word (octet ∷ rest) = not (octet == 0x20)

-- a text without each octet 20 that another follows, or the end
abbrev pub without_gaps : List ℕ → List ℕ
without_gaps [] = []
without_gaps (octet ∷ rest) =
    if at_word (octet ∷ rest) || at_word rest then octet ∷ without_gaps rest else without_gaps rest
