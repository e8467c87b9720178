-- Which connection makes room for another where keys are wanted. A list has for each slot the
-- moment when its connection was accepted, where that one may make room.
use Rattle.std.specs.Prelude.{◌≡◌, ◌⊎◌, ◌≤◌, ℕ, Bool, true, false, List, filter, is_some, length}
use Rattle.std.specs.Prelude.{map}
use Rattle.std.specs.Prelude.{Option, None, Some, slice_get}
use Rattle.ts_sockets.specs.Doors.{are_too_many, reader_since, unknown_since}
use Rattle.ts_sockets.specs.declared.door.Door.{Door}
use Rattle.ts_sockets.specs.declared.lock.Lock.{Lock}

-- the moment of a connection that has shown no key
abbrev pub unknown_behind : Option Lock → Option ℕ
unknown_behind (Some lock) = unknown_since lock
unknown_behind None = None

abbrev pub unknown_at : Option Door → Option ℕ
unknown_at (Some door) = unknown_behind door.lock
unknown_at None = None

-- the moment of one that has shown the key of a reader
abbrev pub reader_behind : Option Lock → Option ℕ
reader_behind (Some lock) = reader_since lock
reader_behind None = None

abbrev pub reader_at : Option Door → Option ℕ
reader_at (Some door) = reader_behind door.lock
reader_at None = None

-- the connection in a slot has this moment
abbrev pub Has : List (Option ℕ) → ℕ → ℕ → Type 0
Has moments slot since = slice_get moments slot ≡ Some (Some since)

-- none has one
abbrev pub HasNone : List (Option ℕ) → Type 0
HasNone moments = (slot since : ℕ) → Has moments slot since → ⊥

-- the slot has the earliest moment, or none has one
abbrev pub IsEarliest : List (Option ℕ) → Option ℕ → Type 0
IsEarliest moments (Some slot) = (since : ℕ) × Has moments slot since
    × ((i other : ℕ) → Has moments i other → since ≤ other)
IsEarliest moments None = HasNone moments

-- the slot has the latest moment, or none has one
abbrev pub IsLatest : List (Option ℕ) → Option ℕ → Type 0
IsLatest moments (Some slot) = (since : ℕ) × Has moments slot since
    × ((i other : ℕ) → Has moments i other → other ≤ since)
IsLatest moments None = HasNone moments

-- it has shown the key of a reader
abbrev pub is_reader : Option Door → Bool
is_reader place = is_some (reader_at place)

-- readers leave less than an eighth of the places to others
abbrev pub has_many_readers : List (Option Door) → Bool
has_many_readers doors = are_too_many (length (filter is_reader doors)) (length doors)

-- Who has shown no key for the longest time makes room. Where nobody is without one, the reader
-- that came last does, if readers are too many, and else nobody.
abbrev pub IsDispensable : List (Option Door) → Option ℕ → Type 0
IsDispensable doors (Some slot) = IsEarliest (map unknown_at doors) (Some slot)
    ⊎ (HasNone (map unknown_at doors) × (has_many_readers doors ≡ true)
    × IsLatest (map reader_at doors) (Some slot))
IsDispensable doors None = HasNone (map unknown_at doors)
    × ((has_many_readers doors ≡ false) ⊎ HasNone (map reader_at doors))
