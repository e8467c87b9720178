-- The fields of rows, by what the rows say.
use Rattle.std.specs.Prelude.{◌≡◌, ℕ, List, Option, option_map}
use Rattle.std.specs.Prelude.{string_bytes}
use Rattle.hex.specs.Hex.{encode_lower}
use Rattle.ts_question.specs.Rows.{AnchorLine, AnchorFits, anchor_encoding}
use Rattle.ts_question.specs.Rows.{CrlLine, CrlFits, crl_encoding}
use Rattle.ts_question.specs.Rows.{CommandLine, CommandFits, command_encoding}
use Rattle.ts_command.specs.Outcomes.{outcome_words}
use Rattle.ts_render.specs.Outcomes.{kind_word, outcome_of}
use Rattle.ts_render.specs.Texts.{IsNameShown, IsTold, TellsMoment, hex_or_none}
use Rattle.ts_render.specs.Purposes.{ArePurposes, AreSet}
use Rattle.ts_render.specs.declared.rows.AnchorFields.{AnchorFields}
use Rattle.ts_render.specs.declared.rows.CrlFields.{CrlFields}
use Rattle.ts_render.specs.declared.rows.CommandFields.{CommandFields}
use Rattle.ts_render.specs.declared.rows.RowFields.{RowFields}
use Rattle.ts_render.specs.declared.rows.RowFields.TheVariants.{Anchor, Crl, Command}

-- ---- trust anchors

pub record IsAnchorRow (line : AnchorLine) (fields : AnchorFields) : Type 0 where
  pub id_is : string_bytes fields.id ≡ encode_lower line.id
  pub subject : IsNameShown line.subject (string_bytes fields.subject)
  pub purposes : ArePurposes line.purposes fields.purposes

-- ---- CRLs

pub record IsCrlRow (line : CrlLine) (fields : CrlFields) : Type 0 where
  pub id_is : string_bytes fields.id ≡ encode_lower line.id
  pub issuer : IsNameShown line.issuer (string_bytes fields.issuer)
  pub number_is : option_map string_bytes fields.number ≡ hex_or_none line.number
  pub base_is : option_map string_bytes fields.base ≡ hex_or_none line.base
  pub scope : IsTold line.scope (option_map string_bytes fields.scope)
  pub this_is : TellsMoment line.this_update (option_map string_bytes fields.this_update)
  pub next_is : TellsMoment line.next_update (option_map string_bytes fields.next_update)
  pub seconds_are : fields.next_seconds ≡ line.next_update
  pub entries_are : fields.entries ≡ line.entries
  pub octets_are : fields.octets ≡ line.size

-- ---- commands

-- what an outcome and its detail say that became of a command
abbrev pub words_of : ℕ → ℕ → Option (List ℕ)
words_of outcome detail = option_map outcome_words (outcome_of outcome detail)

pub record IsCommandRow (line : CommandLine) (fields : CommandFields) : Type 0 where
  pub id_is : string_bytes fields.id ≡ encode_lower line.id
  pub kind_is : option_map (λ word. word.now) fields.kind ≡ kind_word line.kind
  pub outcome_is : option_map string_bytes fields.outcome ≡ words_of line.outcome line.detail
  pub about_is : option_map string_bytes fields.about ≡ hex_or_none line.about
  pub purposes : AreSet line.purposes fields.purposes
  pub octets_are : fields.octets ≡ line.size

-- ---- rows

abbrev pub IsRow : List ℕ → RowFields → Type 0
IsRow octets (Anchor fields) = (line : AnchorLine) × AnchorFits line
    × (octets ≡ anchor_encoding line) × IsAnchorRow line fields
IsRow octets (Crl fields) = (line : CrlLine) × CrlFits line
    × (octets ≡ crl_encoding line) × IsCrlRow line fields
IsRow octets (Command fields) = (line : CommandLine) × CommandFits line
    × (octets ≡ command_encoding line) × IsCommandRow line fields

-- octets are no row of any kind
pub record IsNoRow (octets : List ℕ) : Type 0 where
  pub no_anchor : (line : AnchorLine) → AnchorFits line → ¬ (octets ≡ anchor_encoding line)
  pub no_crl : (line : CrlLine) → CrlFits line → ¬ (octets ≡ crl_encoding line)
  pub no_command : (line : CommandLine) → CommandFits line → ¬ (octets ≡ command_encoding line)
