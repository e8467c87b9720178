-- The purposes for which a trust anchor may be used: any, or the contents octets of object
-- identifiers.
use Rattle.std.specs.Prelude.{◌≡◌, ℕ, Bool, true, ◌&&◌, nat_le, List, [], ◌∷◌, length, Option, Some}
use Rattle.std.specs.Prelude.{None}
use Rattle.std.specs.List.{list_all}
use Rattle.std.specs.Ordering.{nat_cmp, is_lt}
use Rattle.std.specs.Cmp.Lexicographic.{slice_cmp}
use Rattle.ts_der.specs.ObjectIdentifier.{is_oid}

-- each is before the next, octet by octet, and a front of another before it
abbrev pub is_ascending : List (List ℕ) → Bool
is_ascending [] = true
is_ascending (x ∷ []) = true
is_ascending (x ∷ y ∷ oids) = is_lt (slice_cmp nat_cmp x y) && is_ascending (y ∷ oids)

-- a list that purposes may have: at most 16, strictly ascending
abbrev pub is_listed : List (List ℕ) → Bool
is_listed oids = nat_le (length oids) 16 && is_ascending oids

-- any, or at most 16 object identifiers, strictly ascending
abbrev pub ArePurposes : Option (List (List ℕ)) → Type 0
ArePurposes None = Unit {0}
ArePurposes (Some oids) = (is_listed oids ≡ true) × (list_all is_oid oids ≡ true)
