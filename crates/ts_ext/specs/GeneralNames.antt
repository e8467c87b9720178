-- Lists of general names (RFC 5280 4.2.1.6).
use Rattle.std.specs.Prelude.{ℕ, List, Result}
use Rattle.ts_der.specs.declared.fault.Fault.{Fault}
use Rattle.ts_der.specs.Element.{Tlv}
use Rattle.ts_shape.specs.Items.{some_rules, some_of, AreSome}
use Rattle.ts_name.specs.General.{GeneralName, IsGeneralName, general_of}
use Rattle.ts_name.specs.GeneralTable.{general_name}
use Rattle.ts_shape.specs.Shape.{Row, Shape, tagged, no_other, items, der_rules}

-- GeneralNames ::= SEQUENCE SIZE (1..MAX) OF GeneralName (4.2.1.6), by its content
abbrev pub AreGeneralNames : List ℕ → List GeneralName → Type 0
AreGeneralNames = AreSome IsGeneralName

abbrev pub general_names_of : Tlv → Result (List GeneralName) Fault
general_names_of = some_of general_of

-- its items, and that there is one
abbrev pub general_names_items : Shape
general_names_items = items general_name

-- GeneralNames of this tag
abbrev pub general_names : ℕ → Row
general_names tag = tagged tag general_names_items (der_rules some_rules) no_other
