use Rattle.std.proofs.Common.{◌≡◌, List, [], ◌∷◌, ◌++◌, refl, sym, ap, ◌∙◌, append-nil}
use Rattle.std.specs.Prelude.{map}
use Rattle.ts_name.specs.Canon.{Attr, CanonAttr, canon_attr, canon_rdn}
use Rattle.ts_name.specs.View.{attr_of}
use Rattle.ts_name.specs.NameView.{attributes_in}
use Rattle.ts_name.proofs.Items.{goes}
use Rattle.ts_name.proofs.Counting.{one-in-order, order-more}
use Rattle.ts_name.proofs.sameness.are_one_in_order.Goals as goal

pub loop-attribute-init : goal.loop-attribute-init
loop-attribute-init c = (tt, tt, [], [], sym (c.into_iter-attribute-iterator.ensures.into_iter_gives ∙ c.attributes-attribute-items.ensures), sym c.attributes-others.ensures, refl)

pub loop-attribute-preserved : goal.loop-attribute-preserved
loop-attribute-preserved c =
    let i = c.loop-attribute.invariant in
    let x = attr_of c.in-Some.attribute in
    let y = attr_of c.in-Some-next.other in
    let first = i.4 ∙ ap (λ (xs : List Attr). i.2 ++ xs) c.in-Some.ensures.steps in
    let second = i.5 ∙ ap (λ (xs : List Attr). i.3 ++ xs) c.in-Some-next.ensures.steps in (
      tt,
      tt,
      i.2 ++ x ∷ [],
      i.3 ++ y ∷ [],
      goes (attributes_in c.args.a) i.2 c.next.new.self x first,
      goes (attributes_in c.args.b) i.3 c.next-in-loop-attribute.new.self y second,
      order-more i.2 i.3 x y i.6 (c.if-not-same.ensures.0 refl),
    )

pub returns-in-None-next : goal.returns-in-None-next
returns-in-None-next c = λ t.
    let i = c.loop-attribute.invariant in
    let first : attributes_in c.args.a ≡ i.2 = i.4 ∙ (ap (λ (xs : List Attr). i.2 ++ xs) c.in-None.ensures.steps.0 ∙ append-nil i.2) in
    let second : attributes_in c.args.b ≡ i.3 = i.5 ∙ (ap (λ (xs : List Attr). i.3 ++ xs) c.in-None-next.ensures.steps.0 ∙ append-nil i.3) in
    ap canon_rdn first ∙ (one-in-order i.2 i.3 i.6 ∙ ap canon_rdn (sym second))
