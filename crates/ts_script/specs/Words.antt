-- The words of a line: what a name of a script, a number, octets and a distinguished name are
-- written as.
use Rattle.std.specs.Prelude.{◌≡◌, ◌≢◌, ℕ, true, List, [], ◌∷◌, ◌++◌, map, codes}
use Rattle.std.specs.List.{list_all}
use Rattle.std.specs.Char.{is_ascii_alphanumeric}
use Rattle.std.specs.Str.{IsUtf8}
use Rattle.hex.specs.Hex.{encode_lower, IsBytes}
use Rattle.ts_make.specs.declared.description.AttributeType.{AttributeType}
use Rattle.ts_make.specs.declared.description.AttributeType.TheVariants.{CommonName}
use Rattle.ts_make.specs.declared.description.AttributeType.TheVariants.{OrganizationName}
use Rattle.ts_make.specs.declared.description.RdnText.{RdnText}
use Rattle.ts_make.specs.Sayable.{AreTexts}
use Rattle.ts_script.specs.declared.script.LineFault.{LineFault}
use Rattle.ts_script.specs.declared.script.LineFault.TheVariants.{Unknown, Form, Name, Limit}
use Rattle.ts_script.specs.declared.script.LineFault.TheVariants.{Message, Memory}
use Rattle.ts_script.specs.Pieces.{pieces_of}

-- the words of a line, each between two spaces
abbrev pub words_of : List ℕ → List (List ℕ)
words_of line = pieces_of 32 line

-- the first of them
abbrev pub first_of : List (List ℕ) → List ℕ
first_of [] = []
first_of (word ∷ words) = word

-- one or more ASCII letters and digits
abbrev pub IsName : List ℕ → Type 0
IsName word = (word ≢ []) × (list_all is_ascii_alphanumeric word ≡ true)

-- one or more octets, in lower-case hexadecimal digits
pub record IsHex (word : List ℕ) (octets : List ℕ) : Type 0 where
  pub written : word ≡ encode_lower octets
  pub some : octets ≢ []
  pub bytes : IsBytes octets

-- how a distinguished name writes the type of an attribute
abbrev pub kind_word : AttributeType → List ℕ
kind_word CommonName = codes "CN="
kind_word OrganizationName = codes "O="

-- how a distinguished name writes a relative one
abbrev pub rdn_word : RdnText → List ℕ
rdn_word r = kind_word r.kind ++ r.text.now

-- a relative distinguished name, its text in UTF-8
pub record IsRdn (piece : List ℕ) (rdn : RdnText) : Type 0 where
  pub written : piece ≡ rdn_word rdn
  pub text : IsUtf8 rdn.text.now

-- a distinguished name: its relative ones, between slashes
pub record IsDn (word : List ℕ) (rdns : List RdnText) : Type 0 where
  pub pieces : pieces_of 47 word ≡ map rdn_word rdns
  pub texts : AreTexts rdns

-- a word is refused: when out of memory, or as one of no such form
abbrev pub RefusesWord : Type 0 → LineFault → Type 0
RefusesWord IsOther Memory = Unit {0}
RefusesWord IsOther Form = IsOther
RefusesWord IsOther Message = ⊥
RefusesWord IsOther Unknown = ⊥
RefusesWord IsOther Name = ⊥
RefusesWord IsOther Limit = ⊥
