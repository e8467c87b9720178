-- What follows a line.
use Rattle.std.specs.Prelude.{ℕ, ◌+◌, ◌≤◌, List, [], length, Option, Some, None}
use Rattle.ts_pem.specs.Pem.{lines}

-- the lines of what follows a line feed, if there is one
abbrev pub rest_of : Option (List ℕ) → List (List ℕ)
rest_of None = []
rest_of (Some rest) = lines rest

-- what follows a line in a text of this length is shorter
abbrev pub IsShorter : Option (List ℕ) → ℕ → Type 0
IsShorter None n = Unit {0}
IsShorter (Some rest) n = length rest + 1 ≤ n
