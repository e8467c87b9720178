-- Rows as lines that a person reads: the octets, each of which is then written as it is shown.
use Rattle.std.specs.Prelude.{ℕ, ◌==◌, List, [], ◌∷◌, ◌++◌, Option, Some, None, map, option_map}
use Rattle.std.specs.Prelude.{is_some, unwrap_or, codes, string_bytes, if◌then◌else◌}
use Rattle.std.specs.Fmt.{decimal}
use Rattle.std.specs.List.{flat_map}
use Rattle.ts_render.specs.declared.rows.PurposeFields.{PurposeFields}
use Rattle.ts_render.specs.declared.rows.PurposeFields.TheVariants.{Any, These, Unknown}
use Rattle.ts_render.specs.declared.rows.AnchorFields.{AnchorFields}
use Rattle.ts_render.specs.declared.rows.CrlFields.{CrlFields}
use Rattle.ts_render.specs.declared.rows.CommandFields.{CommandFields}
use Rattle.ts_render.specs.declared.rows.RowFields.{RowFields}
use Rattle.ts_render.specs.declared.rows.RowFields.TheVariants.{Anchor, Crl, Command}

-- texts, a comma between each two; `none` where there are none
abbrev pub listed : List (List ℕ) → List ℕ
listed [] = codes "none"
listed (first ∷ others) = first ++ flat_map (λ text. codes "," ++ text) others

abbrev pub purposes_words : PurposeFields → List ℕ
purposes_words Any = codes "any"
purposes_words (These texts) = listed (map string_bytes texts.items)
purposes_words Unknown = codes "?"

-- a word and a text, where there is one
abbrev pub part : List ℕ → Option (List ℕ) → List ℕ
part word None = []
part word (Some text) = codes " " ++ (word ++ (codes " " ++ text))

abbrev pub anchor_words : AnchorFields → List ℕ
anchor_words f = codes "anchor " ++ (string_bytes f.id ++ (codes " "
    ++ (purposes_words f.purposes ++ (codes " " ++ string_bytes f.subject))))

abbrev pub crl_word : CrlFields → List ℕ
crl_word f = if is_some f.base then codes "delta " else codes "crl "

abbrev pub extent_words : CrlFields → List ℕ
extent_words f = codes " entries " ++ (decimal f.entries ++ (codes " octets " ++ (decimal f.octets
    ++ (part (codes "scope") (option_map string_bytes f.scope)
    ++ (codes " " ++ string_bytes f.issuer)))))

abbrev pub crl_words : CrlFields → List ℕ
crl_words f = crl_word f ++ (string_bytes f.id
    ++ (part (codes "number") (option_map string_bytes f.number)
    ++ (part (codes "base") (option_map string_bytes f.base)
    ++ (part (codes "from") (option_map string_bytes f.this_update)
    ++ (part (codes "to") (option_map string_bytes f.next_update) ++ extent_words f)))))

-- of a command that sets purposes
abbrev pub set_words : Option PurposeFields → List ℕ
set_words None = []
set_words (Some purposes) = codes " for " ++ purposes_words purposes

-- of a command that loads octets
abbrev pub size_words : ℕ → List ℕ
size_words octets = if octets == 0 then [] else codes " octets " ++ decimal octets

abbrev pub command_words : CommandFields → List ℕ
command_words f = unwrap_or (option_map (λ word. word.now) f.kind) (codes "?") ++ (codes " "
    ++ (unwrap_or (option_map string_bytes f.outcome) (codes "?") ++ (codes " id "
    ++ (string_bytes f.id ++ (part (codes "about") (option_map string_bytes f.about)
    ++ (set_words f.purposes ++ size_words f.octets))))))

-- of a command its position first
abbrev pub row_words : ℕ → RowFields → List ℕ
row_words place (Anchor fields) = anchor_words fields
row_words place (Crl fields) = crl_words fields
row_words place (Command fields) = decimal place ++ (codes " " ++ command_words fields)
