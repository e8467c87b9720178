-- Lines of text that a terminal shows as they are.
use Rattle.std.specs.Prelude.{ℕ, Bool, ◌+◌, ◌/◌, ◌%◌, ◌==◌, ◌||◌, ◌&&◌, not, nat_le, nat_lt}
use Rattle.std.specs.Prelude.{if◌then◌else◌, List, [], ◌∷◌, ◌++◌}
use Rattle.std.specs.List.{flat_map}

-- a printable character of ASCII
abbrev pub is_printable : ℕ → Bool
is_printable octet = nat_le 32 octet && nat_le octet 126

-- the same, or the line feed that ends a line
abbrev pub is_shown : ℕ → Bool
is_shown octet = octet == 10 || is_printable octet

-- a hexadecimal digit
abbrev pub digit : ℕ → ℕ
digit n = if nat_lt n 10 then 48 + n else 87 + n

-- the two hexadecimal digits of an octet
abbrev pub two_hex_digits : ℕ → List ℕ
two_hex_digits octet = digit (octet / 16) ∷ digit (octet % 16) ∷ []

-- octets in hexadecimal digits
abbrev pub hex : List ℕ → List ℕ
hex octets = flat_map two_hex_digits octets

-- an octet as it is shown: as itself where it is printable and no backslash, else as a backslash, x
-- and its two digits
abbrev pub shown_octet : ℕ → List ℕ
shown_octet octet = if is_printable octet && not (octet == 92) then octet ∷ []
    else 92 ∷ 120 ∷ two_hex_digits octet

-- octets as they are shown
abbrev pub printable : List ℕ → List ℕ
printable octets = flat_map shown_octet octets

-- an octet of a text that is shown already: as itself where it is printable, and a backslash too
abbrev pub kept_octet : ℕ → List ℕ
kept_octet octet = if is_printable octet then octet ∷ [] else shown_octet octet

-- the octets of such a text: themselves where all of them are printable
abbrev pub kept : List ℕ → List ℕ
kept octets = flat_map kept_octet octets

-- a line with the line feed that ends it
abbrev pub with_line_feed : List ℕ → List ℕ
with_line_feed line = line ++ 10 ∷ []

-- the text of lines
abbrev pub text_of : List (List ℕ) → List ℕ
text_of lines = flat_map with_line_feed lines
