use Rattle.std.proofs.Common.{ℕ, ap, ◌∙◌}
use Rattle.std.specs.Ordering.{nat_cmp}
use Rattle.ts_name.specs.Canon.{canon_attr}
use Rattle.ts_name.specs.View.{attr_of}
use Rattle.ts_name.proofs.CanonOrder.{by-kind, by-tag, by-value}
use Rattle.ts_name.proofs.attribute.Attribute.compare.Goals as goal

pub returns-then-ne : goal.returns-then-ne
returns-then-ne c = by-kind (attr_of c.args.self) (attr_of c.args.other) c.cmp-kinds.result c.cmp-kinds.ensures c.if-ne.ensures

pub returns-then-ne-2 : goal.returns-then-ne-2
returns-then-ne-2 c =
    by-tag (attr_of c.args.self) (attr_of c.args.other) c.cmp-kinds.result c.cmp-tags.result c.cmp-kinds.ensures c.if-ne.ensures
    (c.cmp-tags.ensures ∙ (ap (λ (t : ℕ). nat_cmp t c.canonical_tag-2.result)
    c.canonical_tag.ensures
    ∙ ap (λ (t : ℕ). nat_cmp (canon_attr (attr_of c.args.self)).tag t)
    c.canonical_tag-2.ensures)) c.if-ne-2.ensures

pub returns : goal.returns
returns c =
    c.compare_values.ensures
    ∙ by-value (attr_of c.args.self) (attr_of c.args.other) c.cmp-kinds.result c.cmp-tags.result c.cmp-kinds.ensures c.if-ne.ensures
    (c.cmp-tags.ensures ∙ (ap (λ (t : ℕ). nat_cmp t c.canonical_tag-2.result)
    c.canonical_tag.ensures
    ∙ ap (λ (t : ℕ). nat_cmp (canon_attr (attr_of c.args.self)).tag t)
    c.canonical_tag-2.ensures)) c.if-ne-2.ensures
