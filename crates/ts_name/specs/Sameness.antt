-- When two names are one, and when a name lies within the subtree of another (RFC 5280 7.1,
-- 4.2.1.10).
use Rattle.std.specs.Prelude.{◌≡◌, ◌==◌, ◌&&◌, Bool, List, ◌++◌, map, Option, Some, None}
use Rattle.std.specs.Str.{bytes_eq}
use Rattle.std.specs.Cmp.Lexicographic.{pointwise}
use Rattle.ts_name.specs.Canon.{Attr, CanonAttr, canon_rdn}

-- a name in canonical form: its relative distinguished names, each in canonical form. Names are one
-- when these are equal
unfoldable pub canon_name : List (List Attr) → List (List CanonAttr)
canon_name rdns = map canon_rdn rdns

-- whether two attributes in canonical form are one
abbrev pub is_same_attr : CanonAttr → CanonAttr → Bool
is_same_attr a b = bytes_eq a.kind b.kind && (a.tag == b.tag && bytes_eq a.value b.value)

-- whether two names are the same: their canonical forms are equal (7.1)
unfoldable pub is_same_name : List (List Attr) → List (List Attr) → Bool
is_same_name a b = pointwise (pointwise is_same_attr) (canon_name a) (canon_name b)

-- the name's first relative distinguished names are those of the subtree
abbrev pub IsWithin : List (List Attr) → List (List Attr) → Type 0
IsWithin name subtree = (behind : List (List CanonAttr))
    × (canon_name name ≡ canon_name subtree ++ behind)

-- what is left of a name after a front, or that it does not begin so
abbrev pub StripsTo : List (List Attr) → List (List Attr) → Option (List (List Attr)) → Type 0
StripsTo name front (Some rest) = canon_name name ≡ canon_name front ++ canon_name rest
StripsTo name front None = IsWithin name front → ⊥
