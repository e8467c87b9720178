-- Texts of ASCII, and what they say.
use Rattle.std.specs.Prelude.{◌≡◌, ◌≤◌, ◌<◌, ℕ, ℤ, List, [], ◌∷◌, true, Option, Some, None}
use Rattle.std.specs.Prelude.{length, codes}
use Rattle.std.specs.List.{list_all}
use Rattle.hex.specs.Hex.{encode_lower}
use Rattle.ts_line.specs.Lines.{is_printable, hex}
use Rattle.ts_line.specs.Names.{name_text}
use Rattle.ts_line.specs.Scopes.{IsScopeText}
use Rattle.ts_name.specs.Canon.{Attr}
use Rattle.ts_name.specs.NameEncoding.{IsName}
use Rattle.ts_time.specs.Text.{IsGeneral}

abbrev pub IsPrintable : List ℕ → Type 0
IsPrintable text = list_all is_printable text ≡ true

-- what is shown of a name, by its contents octets: its text, or that it is long; of octets that are
-- no name's their hexadecimal digits
pub record IsNameShown (content : List ℕ) (text : List ℕ) : Type 0 where
  pub long : 4096 ≤ length content → text ≡ codes "(a name of 4096 octets or more)"
  pub name : length content < 4096 → (rdns : List (List Attr)) → IsName content rdns
      → text ≡ name_text rdns
  pub other : length content < 4096 → ((rdns : List (List Attr)) → ¬ (IsName content rdns))
      → text ≡ hex content

-- the moment as a GeneralizedTime, if there is one of it
abbrev pub TellsMoment : ℤ → Option (List ℕ) → Type 0
TellsMoment moment None = (text : List ℕ) → ¬ (IsGeneral text moment)
TellsMoment moment (Some text) = IsGeneral text moment

-- octets in hexadecimal digits, if there are any
abbrev pub hex_or_none : List ℕ → Option (List ℕ)
hex_or_none [] = None
hex_or_none (octet ∷ octets) = Some (encode_lower (octet ∷ octets))

-- what is shown of a scope, by its octets: its text, or that it is long
pub record IsScopeShown (octets : List ℕ) (text : List ℕ) : Type 0 where
  pub long : 4096 ≤ length octets → text ≡ codes "(a scope of 4096 octets or more)"
  pub short : length octets < 4096 → IsScopeText octets text

-- the same, where there are octets
abbrev pub IsTold : List ℕ → Option (List ℕ) → Type 0
IsTold [] text = text ≡ None
IsTold (octet ∷ octets) None = ⊥
IsTold (octet ∷ octets) (Some text) = IsScopeShown (octet ∷ octets) text
