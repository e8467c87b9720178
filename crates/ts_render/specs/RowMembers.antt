-- The fields of rows as members of JSON objects: their names and values, in this order.
use Rattle.std.specs.Prelude.{ℕ, List, [], ◌∷◌, Option, Some, None, map, option_map, codes}
use Rattle.std.specs.Prelude.{is_some, string_bytes, if◌then◌else◌}
use Rattle.serde_json.specs.Data.{Data, null, string}
use Rattle.ts_json.specs.Answer.{whole}
use Rattle.ts_json.specs.Members.{NamedValue}
use Rattle.ts_json.specs.Object.{array_of, text_or_null}
use Rattle.ts_render.specs.declared.rows.PurposeFields.{PurposeFields}
use Rattle.ts_render.specs.declared.rows.PurposeFields.TheVariants.{Any, These, Unknown}
use Rattle.ts_render.specs.declared.rows.AnchorFields.{AnchorFields}
use Rattle.ts_render.specs.declared.rows.CrlFields.{CrlFields}
use Rattle.ts_render.specs.declared.rows.CommandFields.{CommandFields}
use Rattle.ts_render.specs.declared.rows.RowFields.{RowFields}
use Rattle.ts_render.specs.declared.rows.RowFields.TheVariants.{Anchor, Crl, Command}

-- null for any
abbrev pub data_of_purposes : PurposeFields → Data
data_of_purposes Any = null
data_of_purposes (These texts) = array_of (map string_bytes texts.items)
data_of_purposes Unknown = string (codes "unknown")

abbrev pub anchor_members : AnchorFields → List NamedValue
anchor_members f = (codes "kind", string (codes "anchor"))
    ∷ (codes "id", string (string_bytes f.id))
    ∷ (codes "subject", string (string_bytes f.subject))
    ∷ (codes "purposes", data_of_purposes f.purposes) ∷ []

abbrev pub crl_members : CrlFields → List NamedValue
crl_members f =
    (codes "kind", string (if is_some f.base then codes "delta" else codes "crl"))
    ∷ (codes "id", string (string_bytes f.id))
    ∷ (codes "issuer", string (string_bytes f.issuer))
    ∷ (codes "number", text_or_null (option_map string_bytes f.number))
    ∷ (codes "base", text_or_null (option_map string_bytes f.base))
    ∷ (codes "scope", text_or_null (option_map string_bytes f.scope))
    ∷ (codes "this_update", text_or_null (option_map string_bytes f.this_update))
    ∷ (codes "next_update", text_or_null (option_map string_bytes f.next_update))
    ∷ (codes "entries", whole f.entries)
    ∷ (codes "octets", whole f.octets) ∷ []

-- of a command that sets purposes
abbrev pub set_members : Option PurposeFields → List NamedValue
set_members None = []
set_members (Some purposes) = (codes "purposes", data_of_purposes purposes) ∷ []

abbrev pub command_members : ℕ → CommandFields → List NamedValue
command_members place f = (codes "position", whole place)
    ∷ (codes "id", string (string_bytes f.id))
    ∷ (codes "kind", text_or_null (option_map (λ word. word.now) f.kind))
    ∷ (codes "outcome", text_or_null (option_map string_bytes f.outcome))
    ∷ (codes "about", text_or_null (option_map string_bytes f.about))
    ∷ (codes "octets", whole f.octets) ∷ set_members f.purposes

abbrev pub members_of_row : ℕ → RowFields → List NamedValue
members_of_row place (Anchor fields) = anchor_members fields
members_of_row place (Crl fields) = crl_members fields
members_of_row place (Command fields) = command_members place fields
