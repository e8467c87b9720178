-- Extensions of certificates, lists and entries of lists (RFC 5280 4.1, 4.2, 5.1, Appendix A.1).
use Rattle.std.specs.Prelude.{◌≡◌, ℕ, Bool, List, ◌++◌, Result, Ok}
use Rattle.ts_der.specs.declared.fault.Fault.{Fault}
use Rattle.ts_der.specs.Answer.{◌>>=◌}
use Rattle.ts_der.specs.Default.{flag_at}
use Rattle.ts_der.specs.Element.{Tlv, inside}
use Rattle.ts_der.specs.Reading.{element_at, end_at}
use Rattle.ts_shape.specs.Fields.{Within, IsOid, oid_at}
use Rattle.ts_shape.specs.Items.{alone, of_tag, some_of, AreSome}
use Rattle.ts_shape.specs.Rows.{object_identifier}
use Rattle.ts_shape.specs.Shape.{Row, Shape, items, optional, tagged, no_other, nothing, ◌then◌}
use Rattle.ts_shape.specs.Shape.{no_rules, primitive, sequence}
use Rattle.ts_ext.specs.AuthorityKey.{AreOctetsOf}
use Rattle.ts_ext.specs.Encoding.{IfTrue}
use Rattle.ts_ext.specs.Table.{flag, list_rules}

-- what an extension says: the content of its object identifier, whether it is critical, the octets
-- of its value
pub record Extension : Type 0 where
  pub extnID : List ℕ
  pub critical : Bool
  pub extnValue : List ℕ

-- ---- encoding

-- Extension ::= SEQUENCE { extnID OBJECT IDENTIFIER, critical BOOLEAN DEFAULT FALSE, extnValue
-- OCTET STRING }
pub record IsExtension (content : List ℕ) (x : Extension) : Type 0 where
  pub id : List ℕ
  pub flag : List ℕ
  pub value : List ℕ
  pub extnID : Within 0x06 IsOid id x.extnID
  pub critical : IfTrue 0x01 flag x.critical
  pub extnValue : Within 0x04 AreOctetsOf value x.extnValue
  pub fields : content ≡ id ++ (flag ++ value)

-- Extensions ::= SEQUENCE SIZE (1..MAX) OF Extension
abbrev pub AreExtensions : List ℕ → List Extension → Type 0
AreExtensions = AreSome (Within 0x30 IsExtension)

-- EXPLICIT Extensions, by the content of the explicit tag
abbrev pub AreExplicit : List ℕ → List Extension → Type 0
AreExplicit = Within 0x30 AreExtensions

-- ---- the table

abbrev pub extension_fields : Shape
extension_fields = object_identifier then optional (flag 0x01) then primitive 0x04 no_rules
    then nothing

abbrev pub extension : Row
extension = sequence extension_fields

abbrev pub extensions : Shape
extensions = items extension

abbrev pub explicit_extensions : Shape
explicit_extensions = tagged 0x30 extensions list_rules no_other then nothing

-- ---- reading

-- an extension where it is: the place of its SEQUENCE, and the element of its value
pub record Located : Type 0 where
  pub at : ℕ
  pub extnID : List ℕ
  pub critical : Bool
  pub value : Tlv

-- what it says, wherever it stands
abbrev pub unlocated : Located → Extension
unlocated x = record { extnID = x.extnID; critical = x.critical; extnValue = x.value.content }

unfoldable pub located_of : Tlv → Result Located Fault
located_of e = do
  id ← oid_at (inside e)
  critical ← flag_at 0x01 id.1
  value ← element_at 0x04 critical.1
  done ← end_at value.1
  Ok (record { at = e.at; extnID = id.0; critical = critical.0; value = value.0 })

abbrev pub located_in : Tlv → Result Located Fault
located_in = of_tag 0x30 located_of

abbrev pub extension_of : Tlv → Result Extension Fault
extension_of e = located_of e >>= λ x. Ok (unlocated x)

abbrev pub extensions_of : Tlv → Result (List Extension) Fault
extensions_of = some_of (of_tag 0x30 extension_of)

-- extensions where they are, and the same after an explicit tag
abbrev pub all_located_of : Tlv → Result (List Located) Fault
all_located_of = some_of located_in

abbrev pub explicit_all_located_of : Tlv → Result (List Located) Fault
explicit_all_located_of = alone (of_tag 0x30 all_located_of)

abbrev pub explicit_extensions_of : Tlv → Result (List Extension) Fault
explicit_extensions_of = alone (of_tag 0x30 extensions_of)
