-- Objects of named values have no number that is a fraction.
use Rattle.std.proofs.Common.{◌≡◌, refl, ap, ℕ, List, [], ◌∷◌, false, map, string_bytes, option_map, codes}
use Rattle.std.specs.declared.vec.Vec.{Vec}
use Rattle.std.specs.declared.alloc.Global.{Global}
use Rattle.serde_json.specs.Data.{Data, array, object, Members, no_members, put}
use Rattle.serde_json.specs.View.{items_of}
use Rattle.serde_json.specs.Written.{has_float, items_have_float, members_have_float}
use Rattle.ts_json.specs.Members.{NamedValue, data_of, named_value, put_all, members_of, object_of, page_of}
use Rattle.ts_json.specs.declared.member.Plain.{Plain}
use Rattle.ts_json.specs.declared.member.Plain.TheVariants.{Flag, Number, Text, Texts, Numbers}
use Rattle.ts_json.specs.declared.member.Member.{Member}
use Rattle.ts_json.proofs.Floats.{put_none, joined_items, of_text, of_number, of_texts}
use Rattle.ts_json.proofs.AnswerFloats.{of_flag, of_numbers}

of_plain : (plain : Plain) → has_float (data_of plain) ≡ false
of_plain (Flag flag) = of_flag flag
of_plain (Number number) = of_number number
of_plain (Text text) = of_text (option_map string_bytes text)
of_plain (Texts texts) = of_texts (map string_bytes texts.items)
of_plain (Numbers numbers) = of_numbers numbers.items

of_all : (members : List Member) (before : Members) → members_have_float before ≡ false → members_have_float (put_all (map named_value members) before) ≡ false
of_all [] before none = none
of_all (m ∷ ms) before none = of_all ms (put m.name.now (data_of m.value) before) (put_none m.name.now (data_of m.value) before (of_plain m.value) none)

pub of_object : (members : List Member) → has_float (object_of (map named_value members)) ≡ false
of_object members = of_all members no_members refl

abbrev pub row_of : Vec Member Global → List NamedValue
row_of row = map named_value row.items

pub each_row : (rows : List (Vec Member Global)) → map (λ row. object_of (map named_value row.items)) rows ≡ map object_of (map row_of rows)
each_row [] = refl
each_row (row ∷ rows) = ap (λ (ds : List Data). object_of (map named_value row.items) ∷ ds) (each_row rows)

of_rows : (rows : List (Vec Member Global)) → items_have_float (items_of (map object_of (map row_of rows))) ≡ false
of_rows [] = refl
of_rows (row ∷ rows) = joined_items (object_of (row_of row)) (items_of (map object_of (map row_of rows))) (of_object row.items) (of_rows rows)

pub of_page : (members : List Member) (rows : List (Vec Member Global)) → has_float (page_of (map named_value members) (map row_of rows)) ≡ false
of_page members rows =
    put_none (codes "rows") (array (items_of (map object_of (map row_of rows)))) (members_of (map named_value members)) (of_rows rows) (of_all members no_members refl)
