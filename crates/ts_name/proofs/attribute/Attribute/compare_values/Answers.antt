use Rattle.std.proofs.Common.{◌∙◌}
use Rattle.ts_name.specs.View.{attr_of}
use Rattle.ts_name.proofs.CanonOrder.{text-values, other-values}
use Rattle.ts_name.proofs.attribute.Attribute.compare_values.Goals as goal

pub returns-then-is_text : goal.returns-then-is_text
returns-then-is_text c = c.compare_texts.ensures ∙ text-values (attr_of c.args.self) (attr_of c.args.other) c.if-is_text.ensures c.requires

pub returns-else-is_text : goal.returns-else-is_text
returns-else-is_text c = c.cmp.ensures ∙ other-values (attr_of c.args.self) (attr_of c.args.other) c.if-is_text.ensures c.requires
