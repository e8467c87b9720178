-- Names (RFC 5280 4.1.2.4, X.501 9): a sequence of relative distinguished names, each a set of
-- attributes, each a type and a value.
use Rattle.std.specs.Prelude.{ℕ, ◌==◌, ◌||◌, Bool, List, [], ◌∷◌, Result, Ok, is_ok, if◌then◌else◌}
use Rattle.std.specs.Result.{result_unwrap_or}
use Rattle.ts_der.specs.declared.fault.DerFault.TheVariants.{Empty}
use Rattle.ts_der.specs.declared.fault.Fault.{Fault}
use Rattle.ts_der.specs.Answer.{◌>>=◌}
use Rattle.ts_der.specs.Rules.{Rule, rule}
use Rattle.ts_der.specs.Element.{Place, Tlv, inside}
use Rattle.ts_der.specs.Reading.{is_end, next_at, element_at, value_at, many, end_at}
use Rattle.ts_der.specs.ObjectIdentifier.{oid_rules}
use Rattle.ts_der.specs.Text.{utf8_rules, ascii_rules}
use Rattle.ts_der.specs.SetOf.{set_of_at}
use Rattle.ts_shape.specs.Fields.{within}
use Rattle.ts_shape.specs.Items.{some_rules}
use Rattle.ts_name.specs.Canon.{Attr}

-- the rules of a value's text: UTF8String, PrintableString and IA5String have a character set here
abbrev pub text_rules : ℕ → List Rule
text_rules tag = if tag == 0x0C then utf8_rules
    else (if tag == 0x13 || tag == 0x16 then ascii_rules else [])

-- ---- reading

-- AttributeTypeAndValue: SEQUENCE { OBJECT IDENTIFIER, one element }
unfoldable pub attribute_of : Tlv → Result Attr Fault
attribute_of e = do
  kind ← element_at 0x06 (inside e)
  oid ← value_at oid_rules (λ c. c) kind.0
  value ← next_at kind.1
  text ← value_at (text_rules value.0.tag) (λ c. c) value.0
  done ← end_at value.1
  Ok (record { kind = oid; tag = value.0.tag; value = text })

abbrev pub attribute_at : Place → Result (Attr × Place) Fault
attribute_at = within 0x30 attribute_of

-- RelativeDistinguishedName: SET SIZE (1..MAX) OF AttributeTypeAndValue
unfoldable pub rdn_of : Tlv → Result (List Attr) Fault
rdn_of set = do
  attributes ← many attribute_at (inside set)
  some ← value_at some_rules (λ c. c) set
  ordered ← set_of_at set
  Ok attributes

abbrev pub rdn_at : Place → Result (List Attr × Place) Fault
rdn_at = within 0x31 rdn_of

-- Name: SEQUENCE OF RelativeDistinguishedName
unfoldable pub name_of : Tlv → Result (List (List Attr)) Fault
name_of e = many rdn_at (inside e)

-- Name
unfoldable pub name_at : Place → Result (List (List Attr) × Place) Fault
name_at = within 0x30 name_of

-- ---- what is left of a name that was read

abbrev pub rdns_from : Place → List (List Attr)
rdns_from here = result_unwrap_or (many rdn_at here) []

abbrev pub are_rdns : Place → Bool
are_rdns here = is_ok (many rdn_at here)

abbrev pub attributes_from : Place → List Attr
attributes_from here = result_unwrap_or (many attribute_at here) []

abbrev pub are_attributes : Place → Bool
are_attributes here = is_ok (many attribute_at here)
