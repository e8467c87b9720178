-- Name constraints (RFC 5280 4.2.1.10).
use Rattle.std.specs.Prelude.{◌≡◌, ℕ, ◌++◌, List, Option, Result, Ok, if◌then◌else◌}
use Rattle.ts_der.specs.declared.fault.Fault.{Fault}
use Rattle.ts_der.specs.Answer.{◌>>=◌}
use Rattle.ts_der.specs.Element.{Tlv, inside}
use Rattle.ts_der.specs.Reading.{end_at}
use Rattle.ts_shape.specs.Items.{some_rules, of_tag, some_of, AreSome}
use Rattle.ts_shape.specs.Fields.{Within, IfAny, optional_of}
use Rattle.ts_name.specs.Subtree.{GeneralSubtree, IsSubtree, subtree_of}
use Rattle.ts_name.specs.SubtreeTable.{general_subtree}
use Rattle.ts_shape.specs.Shape.{Row, Shape, tagged, no_other, optional, items, nothing, ◌then◌}
use Rattle.ts_shape.specs.Shape.{der_rules}

pub record Constraints : Type 0 where
  pub permittedSubtrees : Option (List GeneralSubtree)
  pub excludedSubtrees : Option (List GeneralSubtree)

-- GeneralSubtrees ::= SEQUENCE SIZE (1..MAX) OF GeneralSubtree (4.2.1.10), by its content
abbrev pub AreSubtrees : List ℕ → List GeneralSubtree → Type 0
AreSubtrees = AreSome (Within 0x30 IsSubtree)

abbrev pub subtrees_of : Tlv → Result (List GeneralSubtree) Fault
subtrees_of = some_of (of_tag 0x30 subtree_of)

-- GeneralSubtrees of this tag
abbrev pub general_subtrees : ℕ → Row
general_subtrees tag = tagged tag (items general_subtree) (der_rules some_rules) no_other

-- NameConstraints ::= SEQUENCE { permittedSubtrees [0] GeneralSubtrees OPTIONAL, excludedSubtrees
-- [1] GeneralSubtrees OPTIONAL }
pub record AreConstraints (content : List ℕ) (n : Constraints) : Type 0 where
  pub permitted : List ℕ
  pub excluded : List ℕ
  pub permittedSubtrees : IfAny 0xA0 AreSubtrees permitted n.permittedSubtrees
  pub excludedSubtrees : IfAny 0xA1 AreSubtrees excluded n.excludedSubtrees
  pub fields : content ≡ permitted ++ excluded

unfoldable pub name_constraints_of : Tlv → Result Constraints Fault
name_constraints_of e = do
  permitted ← optional_of 0xA0 subtrees_of (inside e)
  excluded ← optional_of 0xA1 subtrees_of permitted.1
  done ← end_at excluded.1
  Ok (record { permittedSubtrees = permitted.0; excludedSubtrees = excluded.0 })

abbrev pub name_constraints_fields : Shape
name_constraints_fields = optional (general_subtrees 0xA0) then optional (general_subtrees 0xA1)
    then nothing
