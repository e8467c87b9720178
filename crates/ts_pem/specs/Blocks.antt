-- What the blocks of a text are (RFC 7468 2, 3), as a relation between lines and blocks.
use Rattle.std.specs.Prelude.{◌≡◌, ℕ, true, false, List, [], ◌∷◌, ◌++◌, Some, None}
use Rattle.std.specs.List.{list_all, flat_map, AllByRecursion}
use Rattle.std.specs.Str.{bytes_eq}
use Rattle.ts_pem.specs.Pem.{PemBlock, without_blanks, label_of, end_line, is_stray, is_symbol, decode}

-- a line that begins no block which is read, and ends none
abbrev pub IsOutside : List ℕ → Type 0
IsOutside line =
    (label_of (without_blanks line) ≡ None) × (is_stray (without_blanks line) ≡ false)

-- a line of base64
abbrev pub IsInside : List ℕ → Type 0
IsInside line = list_all is_symbol (without_blanks line) ≡ true

-- the base64 of lines together
abbrev pub base64_of : List (List ℕ) → List ℕ
base64_of lines = flat_map without_blanks lines

-- the first block of lines, and the lines after it
pub record IsFirst (lines : List (List ℕ)) (block : PemBlock) (rest : List (List ℕ)) : Type 0 where
  pub before : List (List ℕ)
  pub begin : List ℕ
  pub body : List (List ℕ)
  pub end : List ℕ
  pub lines_are : lines ≡ before ++ begin ∷ (body ++ end ∷ rest)
  pub outside : AllByRecursion IsOutside before
  pub begins : label_of (without_blanks begin) ≡ Some block.label
  pub inside : AllByRecursion IsInside body
  pub encodes : decode (base64_of body) ≡ Some block.octets
  pub ends : bytes_eq (without_blanks end) (end_line block.label) ≡ true

-- these are all blocks of lines, in order
abbrev pub AreBlocks : List (List ℕ) → List PemBlock → Type 0
AreBlocks lines [] = AllByRecursion IsOutside lines
AreBlocks lines (block ∷ blocks) =
    (rest : List (List ℕ)) × IsFirst lines block rest × AreBlocks rest blocks
