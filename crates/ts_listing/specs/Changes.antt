-- What changed between two listings.
use Rattle.std.specs.Prelude.{ℕ, not, List, filter}
use Rattle.std.specs.List.{list_any}
use Rattle.std.specs.Str.{bytes_eq}

-- the rows that are not among others, in their order
abbrev pub missing : List (List ℕ) → List (List ℕ) → List (List ℕ)
missing others rows = filter (λ row. not (list_any (bytes_eq row) others)) rows
