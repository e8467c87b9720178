-- Texts in lines, and lines in words.
use Rattle.std.specs.Prelude.{ℕ, ◌||◌, Bool, true, false, nat_eq, List, [], ◌∷◌, Option, None, Some}
use Rattle.std.specs.List.{filter, slice_split}
use Rattle.ts_access.specs.declared.piece.Mark.{Mark}
use Rattle.ts_access.specs.declared.piece.Mark.TheVariants.{LineFeed, Blank}

-- a line feed, or a space or a tab
abbrev pub is_mark : Mark → ℕ → Bool
is_mark LineFeed octet = nat_eq octet 10
is_mark Blank octet = nat_eq octet 32 || nat_eq octet 9

-- the pieces between marks, one more than there are marks
abbrev pub pieces_of : Mark → List ℕ → List (List ℕ)
pieces_of mark octets = slice_split (is_mark mark) octets

-- those of what follows a mark, and none where there is no mark
abbrev pub pieces_behind : Mark → Option (List ℕ) → List (List ℕ)
pieces_behind mark None = []
pieces_behind mark (Some octets) = pieces_of mark octets

abbrev pub has_octets : List ℕ → Bool
has_octets [] = false
has_octets (octet ∷ octets) = true

-- the words: the pieces between spaces and tabs that have octets
abbrev pub words_behind : Option (List ℕ) → List (List ℕ)
words_behind octets = filter has_octets (pieces_behind Blank octets)

abbrev pub words_of : List ℕ → List (List ℕ)
words_of line = words_behind (Some line)

abbrev pub lines_of : List ℕ → List (List ℕ)
lines_of text = pieces_of LineFeed text
