-- Attributes in the order of their canonical form, as the comparison of names keeps them for a
-- while.
use Rattle.std.specs.Prelude.{List, IsSorted}
use Rattle.ts_name.specs.declared.attribute.Attribute.{Attribute}
use Rattle.ts_name.specs.Canon.{CanonAttr, canon_attr, compare_attrs}
use Rattle.ts_name.specs.View.{attr_of}

-- an attribute in canonical form
abbrev pub canon_of : Attribute → CanonAttr
canon_of a = canon_attr (attr_of a)

-- they ascend
abbrev pub AreSorted : List Attribute → Type 0
AreSorted attributes = IsSorted (λ a b. compare_attrs (canon_of a) (canon_of b)) attributes
