-- The first command of each id: a finite map, seen as its entries in the order of the ids.
use Rattle.std.specs.Prelude.{ℕ, List, Option}
use Rattle.std.specs.BTreeMap.{insert_entry, is_at}
use Rattle.std.specs.Cmp.Lexicographic.{slice_cmp}
use Rattle.std.specs.Map.{lookup, remove_entry}
use Rattle.std.specs.Ordering.{nat_cmp}
use Rattle.ts_store.specs.declared.ids.FirstCommand.{FirstCommand}

-- the command that an id has
abbrev pub first_of : List ℕ → List (List ℕ × FirstCommand) → Option FirstCommand
first_of id ids = lookup (is_at (slice_cmp nat_cmp id)) ids

-- the ids with this command for one of them
abbrev pub with_first : List ℕ → FirstCommand → List (List ℕ × FirstCommand)
    → List (List ℕ × FirstCommand)
with_first id first ids = insert_entry (slice_cmp nat_cmp) ids id first

-- the ids without one of them
abbrev pub without : List ℕ → List (List ℕ × FirstCommand) → List (List ℕ × FirstCommand)
without id ids = remove_entry (is_at (slice_cmp nat_cmp id)) ids
