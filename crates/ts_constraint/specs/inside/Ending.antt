-- The octets of a text from its end on.
use Rattle.std.specs.Prelude.{ℕ, Bool, false, cond, List, [], ◌∷◌, ◌++◌, Option, Some, None, ◌≡◌}
use Rattle.std.specs.Char.{to_ascii_lowercase}
use Rattle.ts_constraint.specs.declared.ending.Ending.{Ending}

-- a text from its end on, the letters A to Z as a to z, and then a dot where there is one before it
abbrev pub backwards : List ℕ → Bool → List ℕ
backwards [] dotted = cond dotted (46 ∷ []) []
backwards (octet ∷ rest) dotted =
    backwards rest false ++ to_ascii_lowercase octet ∷ cond dotted (46 ∷ []) []

-- of an ending in memory
abbrev pub octets : Ending → List ℕ
octets e = backwards e.text.now e.dotted

-- the first of the octets, and those after it
abbrev pub Takes : List ℕ → Option ℕ → List ℕ → Type 0
Takes before None after = before ≡ []
Takes before (Some octet) after = before ≡ octet ∷ after
