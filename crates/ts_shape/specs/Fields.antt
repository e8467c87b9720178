-- Fields of a SEQUENCE that more than one format has: the octets that encode each, and how it is
-- read.
use Rattle.std.specs.Prelude.{◌≡◌, ℕ, true, List, [], ◌∷◌, drop, Option, Some, None, Result, Ok}
use Rattle.std.specs.Prelude.{if◌then◌else◌}
use Rattle.ts_der.specs.declared.fault.Fault.{Fault}
use Rattle.ts_der.specs.Answer.{◌>>=◌}
use Rattle.ts_der.specs.Element.{Place, Tlv, Fits, encode}
use Rattle.ts_der.specs.Integer.{is_shortest, integer_rules}
use Rattle.ts_der.specs.BitString.{whole_octets_rules}
use Rattle.ts_der.specs.ObjectIdentifier.{is_oid, oid_rules}
use Rattle.ts_der.specs.Reading.{value_at, begins_with, element_at}

-- ---- encoding

-- octets that are one element of this tag, whose content encodes a value
pub record Within {A : Type 0} (tag : ℕ) (Encodes : List ℕ → A → Type 0) (octets : List ℕ)
    (x : A) : Type 0 where
  pub content : List ℕ
  pub fits : Fits tag content
  pub encoded : octets ≡ encode tag content
  pub value : Encodes content x

-- octets that are one element of any tag
pub record IsAny (octets : List ℕ) : Type 0 where
  pub tag : ℕ
  pub content : List ℕ
  pub fits : Fits tag content
  pub encoded : octets ≡ encode tag content

-- octets that are such an element, or none where it is absent
abbrev pub IfAny : {A : Type 0} → ℕ → (List ℕ → A → Type 0) → List ℕ → Option A → Type 0
IfAny tag Encodes octets None = octets ≡ []
IfAny tag Encodes octets (Some x) = Within tag Encodes octets x

-- OBJECT IDENTIFIER, by its content
abbrev pub IsOid : List ℕ → List ℕ → Type 0
IsOid content oid = (content ≡ oid) × (is_oid oid ≡ true)

-- INTEGER, by its content
abbrev pub IsInteger : List ℕ → List ℕ → Type 0
IsInteger content octets = (content ≡ octets) × (is_shortest octets ≡ true)

-- BIT STRING of whole octets: no bit is unused
abbrev pub IsBits : List ℕ → List ℕ → Type 0
IsBits content octets = content ≡ 0 ∷ octets

-- ---- reading

-- an element of this tag, and what is read within it
unfoldable pub within : {A : Type 0} → ℕ → (Tlv → Result A Fault) → Place → Result (A × Place) Fault
within tag value here = do
  e ← element_at tag here
  x ← value e.0
  Ok (x, e.1)

-- OBJECT IDENTIFIER, INTEGER, and BIT STRING of whole octets
unfoldable pub oid_at : Place → Result (List ℕ × Place) Fault
oid_at = within 0x06 (value_at oid_rules (λ c. c))

unfoldable pub integer_at : Place → Result (List ℕ × Place) Fault
integer_at = within 0x02 (value_at integer_rules (λ c. c))

unfoldable pub bits_at : Place → Result (List ℕ × Place) Fault
bits_at = within 0x03 (value_at whole_octets_rules (λ c. drop 1 c))

-- a field of this tag that may be absent
unfoldable pub optional_of : {A : Type 0} → ℕ → (Tlv → Result A Fault) → Place
    → Result (Option A × Place) Fault
optional_of tag value here = if begins_with tag here.rest
    then (element_at tag here >>= λ e. value e.0 >>= λ x. Ok (Some x, e.1)) else Ok (None, here)
