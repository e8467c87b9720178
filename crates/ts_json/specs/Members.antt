-- Objects of named values (RFC 8259 section 4), and a page of such objects.
use Rattle.std.specs.Prelude.{ℕ, List, [], ◌∷◌, ◌++◌, map, option_map, codes, string_bytes}
use Rattle.serde_json.specs.Data.{Data, array, object, Members, no_members, put}
use Rattle.serde_json.specs.View.{items_of}
use Rattle.ts_json.specs.Answer.{flag_or_null, numbers_of}
use Rattle.ts_json.specs.Object.{array_of, number_or_null, text_or_null}
use Rattle.ts_json.specs.declared.member.Plain.{Plain}
use Rattle.ts_json.specs.declared.member.Plain.TheVariants.{Flag, Number, Text, Texts, Numbers}
use Rattle.ts_json.specs.declared.member.Member.{Member}

-- a name, and a value
abbrev pub NamedValue : Type 0
NamedValue = List ℕ × Data

abbrev pub data_of : Plain → Data
data_of (Flag flag) = flag_or_null flag
data_of (Number number) = number_or_null number
data_of (Text text) = text_or_null (option_map string_bytes text)
data_of (Texts texts) = array_of (map string_bytes texts.items)
data_of (Numbers numbers) = numbers_of numbers.items

abbrev pub named_value : Member → NamedValue
named_value member = (member.name.now, data_of member.value)

-- further members, one after another: of two with one name the later one counts
abbrev pub put_all : List NamedValue → Members → Members
put_all [] members = members
put_all (one ∷ others) members = put_all others (put one.0 one.1 members)

abbrev pub members_of : List NamedValue → Members
members_of all = put_all all no_members

abbrev pub object_of : List NamedValue → Data
object_of all = object (members_of all)

-- the members, and the rows under their name
abbrev pub page_of : List NamedValue → List (List NamedValue) → Data
page_of all rows =
    object (put (codes "rows") (array (items_of (map object_of rows))) (members_of all))
