-- Values that are kept, each with the octets under which it is.
use Rattle.std.specs.Prelude.{◌≡◌, ◌⊎◌, ℕ, List, [], map, Contains, Option, Some, None}
use Rattle.lru.specs.LruCache.{LruCache}
use Rattle.ts_recent.specs.declared.recent.Entry.{Entry}

-- the octets and the value of an entry
abbrev pub pair_in : {V : Type 0} → ℕ × Entry V → List ℕ × V
pair_in entry = (entry.1.octets.items, entry.1.value)

-- the pairs of a table, which has none before there is room
abbrev pub pairs_in : {V : Type 0} → Option (LruCache ℕ (Entry V)) → List (List ℕ × V)
pairs_in None = []
pairs_in (Some table) = map pair_in table.entries

-- each of the first is one of the others
abbrev pub AreAmong : {A : Type 0} → List A → List A → Type 0
AreAmong {A} new old = (x : A) → Contains new x → Contains old x

-- each of the first is this one or one of the others
abbrev pub AreAmongOr : {A : Type 0} → A → List A → List A → Type 0
AreAmongOr {A} one new old = (x : A) → Contains new x → Contains old x ⊎ (x ≡ one)
