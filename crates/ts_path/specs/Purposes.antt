-- Purposes of keys (RFC 5280 4.2.1.12): the content of an OBJECT IDENTIFIER each.
use Rattle.std.specs.Prelude.{ℕ, ◌||◌, Bool, true, List, [], ◌∷◌, Option, Some, None}
use Rattle.std.specs.List.{list_any}
use Rattle.std.specs.Str.{bytes_eq}

-- anyExtendedKeyUsage, 2.5.29.37.0
abbrev pub any_purpose : List ℕ
any_purpose = 0x55 ∷ 0x1D ∷ 0x25 ∷ 0x00 ∷ []

-- a purpose stands for the one that is asked: it is that, or any
abbrev pub stands_for : List ℕ → List ℕ → Bool
stands_for asked purpose = bytes_eq purpose asked || bytes_eq purpose any_purpose

-- whether purposes that are stated, if they are, allow the one that is asked, if one is
abbrev pub allow : Option (List ℕ) → Option (List (List ℕ)) → Bool
allow None purposes = true
allow (Some asked) None = true
allow (Some asked) (Some purposes) = list_any (stands_for asked) purposes
