-- Octets in pieces.
use Rattle.std.specs.Prelude.{ℕ, ◌==◌, List, [], ◌∷◌, Option, None, Some}
use Rattle.std.specs.List.{slice_split}

-- an octet at the front of the first piece
abbrev pub onto_first : ℕ → List (List ℕ) → List (List ℕ)
onto_first x [] = (x ∷ []) ∷ []
onto_first x (piece ∷ pieces) = (x ∷ piece) ∷ pieces

-- octets at the front of the first piece
abbrev pub all_onto_first : List ℕ → List (List ℕ) → List (List ℕ)
all_onto_first [] pieces = pieces
all_onto_first (x ∷ xs) pieces = onto_first x (all_onto_first xs pieces)

-- the pieces between marks, one more than there are marks
abbrev pub pieces_of : ℕ → List ℕ → List (List ℕ)
pieces_of mark octets = slice_split (λ octet. octet == mark) octets

-- those of what follows a mark, and none where there is no mark
abbrev pub pieces_behind : ℕ → Option (List ℕ) → List (List ℕ)
pieces_behind mark None = []
pieces_behind mark (Some octets) = pieces_of mark octets
