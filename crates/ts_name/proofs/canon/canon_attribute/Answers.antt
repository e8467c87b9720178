use Rattle.std.proofs.Common.{◌∙◌, sym}
use Rattle.std.proofs.lemmas.Iterator.{items_from_collect}
use Rattle.std.proofs.lemmas.Iterator.Consumers.{YieldsList-from_first}
use Rattle.ts_name.specs.Canon.{canonical_text}
use Rattle.ts_name.specs.inside.Folding.{octets_left}
use Rattle.ts_name.specs.View.{attr_of}
use Rattle.ts_name.proofs.AttributeForms.{text, no_text}
use Rattle.ts_name.proofs.canon.canon_attribute.Goals as goal

pub returns-in_ok-value : goal.returns-in_ok-value
returns-in_ok-value c =
    let a = attr_of c.args.attribute in
    let octets = rw c.in_ok-value.was at
    (items_from_collect c.collect.result c.collect.ensures.ran
    (YieldsList-from_first (λ x. x) octets_left {s = c.new.result} (canonical_text a.value)
    c.new.ensures)) in
    rw (c.in_ok-kind.ensures.items, octets) (sym (text a (sym c.is_text.ensures ∙ c.if-is_text.true)))

pub returns-in_ok-value-2 : goal.returns-in_ok-value-2
returns-in_ok-value-2 c =
    rw (c.in_ok-kind.ensures.items, c.in_ok-value-2.ensures.items) (sym (no_text (attr_of c.args.attribute) (sym c.is_text.ensures ∙ c.if-is_text.false)))
