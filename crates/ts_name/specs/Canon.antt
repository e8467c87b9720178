-- The canonical form of names, in which they are compared (RFC 5280 7.1). This profile folds the
-- letters of ASCII alone.
use Rattle.std.specs.Prelude.{ℕ, Bool, true, false, ◌==◌, ◌&&◌, ◌||◌, nat_le, if◌then◌else◌, List}
use Rattle.std.specs.Prelude.{[], ◌∷◌, ◌+◌, map, filter, count_by}
use Rattle.std.specs.List.{join_with_byte}
use Rattle.std.specs.Ordering.{nat_cmp, ordering_then, is_le, is_eq}
use Rattle.std.specs.declared.cmp.Ordering.{Ordering}
use Rattle.std.specs.Cmp.Lexicographic.{slice_cmp}

-- an attribute of a relative distinguished name: the octets of its type, and the tag and the
-- content of its value
pub record Attr : Type 0 where
  pub kind : List ℕ
  pub tag : ℕ
  pub value : List ℕ

-- an attribute in canonical form; the tag of text is that of UTF8String
pub record CanonAttr : Type 0 where
  pub kind : List ℕ
  pub tag : ℕ
  pub value : List ℕ

-- the strings that are compared as text: UTF8String, PrintableString, IA5String
abbrev pub is_text : ℕ → Bool
is_text tag = tag == 0x0C || tag == 0x13 || tag == 0x16

-- a letter A to Z as the letter a to z, any other octet as it is
abbrev pub fold_case : ℕ → ℕ
fold_case octet = if nat_le 0x41 octet && nat_le octet 0x5A then octet + 0x20 else octet

-- the first of the parts with this octet before it
abbrev pub begin_with : ℕ → List (List ℕ) → List (List ℕ)
begin_with octet [] = (octet ∷ []) ∷ []
begin_with octet (part ∷ parts) = (octet ∷ part) ∷ parts

-- the parts of a text between its octets 20
abbrev pub parts : List ℕ → List (List ℕ)
parts [] = [] ∷ []
parts (octet ∷ rest) = if octet == 0x20 then [] ∷ parts rest else begin_with octet (parts rest)

abbrev pub is_word : List ℕ → Bool
is_word [] = false
is_word (octet ∷ rest) = true

-- the words of a text: the parts that are not empty
abbrev pub words : List ℕ → List (List ℕ)
words text = filter is_word (parts text)

-- a text in canonical form: its words with one octet 20 between each two, the letters folded
unfoldable pub canonical_text : List ℕ → List ℕ
canonical_text text = map fold_case (join_with_byte 0x20 (words text))

-- an attribute in canonical form: text is folded and has one tag, any other value is its tag and
-- its octets
unfoldable pub canon_attr : Attr → CanonAttr
canon_attr a =
    if is_text a.tag
    then record { kind = a.kind; tag = 0x0C; value = canonical_text a.value }
    else record { kind = a.kind; tag = a.tag; value = a.value }

-- the order of attributes in canonical form: by type, then by tag, then by value; of octets the
-- first that differ decide, and a beginning is before the whole
unfoldable pub compare_attrs : CanonAttr → CanonAttr → Ordering
compare_attrs a b =
    ordering_then (slice_cmp nat_cmp a.kind b.kind)
    (ordering_then (nat_cmp a.tag b.tag) (slice_cmp nat_cmp a.value b.value))

abbrev pub attr_at_most : CanonAttr → CanonAttr → Bool
attr_at_most a b = is_le (compare_attrs a b)

-- an attribute put before the first that it is at most
abbrev pub insert_attr : CanonAttr → List CanonAttr → List CanonAttr
insert_attr a [] = a ∷ []
insert_attr a (b ∷ bs) = if attr_at_most a b then a ∷ b ∷ bs else b ∷ insert_attr a bs

-- attributes in ascending order
abbrev pub sort_attrs : List CanonAttr → List CanonAttr
sort_attrs [] = []
sort_attrs (a ∷ bs) = insert_attr a (sort_attrs bs)

-- a relative distinguished name in canonical form, which is a set of attributes
unfoldable pub canon_rdn : List Attr → List CanonAttr
canon_rdn attrs = sort_attrs (map canon_attr attrs)

-- whether two attributes in canonical form are one
abbrev pub is_same : CanonAttr → CanonAttr → Bool
is_same a b = is_eq (compare_attrs a b)

-- how often an attribute in canonical form occurs in a list
abbrev pub count_of : CanonAttr → List CanonAttr → ℕ
count_of a bs = count_by (is_same a) bs
