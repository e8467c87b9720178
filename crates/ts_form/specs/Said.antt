-- The pairs that a JSON object says (RFC 8259 section 4).
use Rattle.std.specs.Prelude.{◌≡◌, ℕ, List, [], ◌∷◌, ◌++◌, true, false, Option, Some, None, codes}
use Rattle.std.specs.Prelude.{Bool, ◌||◌, fold, length, nat_lt}
use Rattle.std.specs.Fmt.{decimal}
use Rattle.serde_json.specs.Data.{Data, null, boolean, number, unsigned, string, array, object}
use Rattle.serde_json.specs.Data.{Items, no_items, item, Members, no_members, member}
use Rattle.serde_json.specs.Read.{read}
use Rattle.ts_form.specs.Pairs.{AreMany, NamedValue, with_pair}
use Rattle.ts_form.specs.declared.fault.FormFault.{FormFault}
use Rattle.ts_form.specs.declared.fault.FormFault.TheVariants as faults

-- what two say, if both say something
abbrev pub both : Option (List NamedValue) → Option (List NamedValue) → Option (List NamedValue)
both (Some first) (Some others) = Some (first ++ others)
both (Some first) None = None
both None others = None

abbrev pub one : List ℕ → List ℕ → Option (List NamedValue)
one name text = Some ((name, text) ∷ [])

-- an item of a list: a text
abbrev pub text_said : List ℕ → Data → Option (List NamedValue)
text_said name (string text) = one name text
text_said name other = None

-- a pair for each item of a list
unfoldable pub items_said : List ℕ → Items → Option (List NamedValue)
items_said name no_items = Some []
items_said name (item first items) = both (text_said name first) (items_said name items)

-- a text, a flag, a whole number in decimal, a list of texts; `null` says nothing
unfoldable pub value_said : List ℕ → Data → Option (List NamedValue)
value_said name null = Some []
value_said name (boolean true) = one name (codes "true")
value_said name (boolean false) = one name (codes "false")
value_said name (number (unsigned n)) = one name (decimal n)
value_said name (string text) = one name text
value_said name (array items) = items_said name items
value_said name other = None

-- what the members say, one after another
unfoldable pub members_said : Members → Option (List NamedValue)
members_said no_members = Some []
members_said (member name value members) = both (value_said name value) (members_said members)

abbrev pub object_said : Data → Option (List NamedValue)
object_said (object members) = members_said members
object_said other = None

-- the name of a member has more than 64 octets: no field has such a name
unfoldable pub has_long_name : Members → Bool
has_long_name no_members = false
has_long_name (member name value members) = nat_lt 64 (length name) || has_long_name members

abbrev pub is_long : Data → Bool
is_long (object members) = has_long_name members
is_long other = false

-- the text is of an object with a name of more than 64 octets
abbrev pub IsLongText : List ℕ → Type 0
IsLongText text = (value : Data) × (read text ≡ Some value) × (is_long value ≡ true)

-- the text is of an object without such a name, which says these pairs
pub record IsSaid (text : List ℕ) (pairs : List NamedValue) : Type 0 where
  pub value : Data
  pub is_read : read text ≡ Some value
  pub short : is_long value ≡ false
  pub said : object_said value ≡ Some pairs

-- what is said stands behind what was there, of which no more than 257 pairs are kept
pub record AppendsPairs (said : Option (List NamedValue)) (before after : List NamedValue) : Type 0
  where
    pub more : List NamedValue
    pub is : said ≡ Some more
    pub behind : after ≡ fold with_pair before more

-- memory was refused, or this says nothing
abbrev pub IsUnsaid : Option (List NamedValue) → FormFault → Type 0
IsUnsaid said faults.Memory = Unit {0}
IsUnsaid said faults.Json = said ≡ None
IsUnsaid said fault = ⊥

-- memory was refused, or this says nothing, or it says more than 256 pairs
abbrev pub IsNotTaken : Option (List NamedValue) → FormFault → Type 0
IsNotTaken said faults.Many =
    (pairs : List NamedValue) × (said ≡ Some pairs) × AreMany pairs
IsNotTaken said fault = IsUnsaid said fault

-- Why a text is refused: memory, which any call may answer, or the one fault of this text. It is of
-- an object with a name of more than 64 octets; or it says more than 256 pairs; or it is of no
-- object with such a name, and says no pairs.
abbrev pub IsUnsaidText : List ℕ → FormFault → Type 0
IsUnsaidText text faults.Memory = Unit {0}
IsUnsaidText text faults.Name = IsLongText text
IsUnsaidText text faults.Many = (pairs : List NamedValue) × IsSaid text pairs × AreMany pairs
IsUnsaidText text faults.Json =
    ¬ (IsLongText text) × ((pairs : List NamedValue) → ¬ (IsSaid text pairs))
IsUnsaidText text fault = ⊥
