-- Lists of one item or more, each an element of one tag whose content has a format.
use Rattle.std.proofs.Common.{ℕ, List, Result}
use Rattle.ts_der.specs.declared.fault.Fault.{Fault}
use Rattle.ts_der.specs.Element.{Tlv}
use Rattle.ts_shape.specs.Fields.{Within}
use Rattle.ts_shape.specs.Items.{of_tag, some_of, AreSome}
use Rattle.ts_shape.specs.Shape.{Shape, ContentRules, tagged, no_other, items}
use Rattle.ts_shape.proofs.Judging.{Whatever}
use Rattle.ts_shape.proofs.ItemParts.{tag-part, tag-reads, some-found, some-again, some-judged}
use Rattle.ts_ext.specs.Table.{list_rules}
use Rattle.ts_ext.proofs.Formats.{Format, value_of}

-- one item or more
pub list-format : {A : Type 0} {value : Tlv → Result A Fault} {Is : List ℕ → A → Type 0} {shape : Shape} {rules : ContentRules} (tag : ℕ) → Format value Is shape rules
    → Format (some_of (of_tag tag value)) (AreSome (Within tag Is)) (items (tagged tag shape rules no_other)) list_rules
list-format {A} {value} {Is} {shape} {rules} tag format =
    record {
      found = λ e xs fits read. some-found (of_tag tag value) (Within tag Is) (tag-part tag value Is (value_of format tag)) e xs fits read;
      again = λ e xs are. some-again (of_tag tag value) (Within tag Is) (tag-part tag value Is (value_of format tag)) e xs are;
      judged = λ e. some-judged (tagged tag shape rules no_other) (of_tag tag value) Whatever (tag-reads tag shape rules value Whatever format.judged) e;
    }
