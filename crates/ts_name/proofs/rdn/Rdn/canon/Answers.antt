use Rattle.std.proofs.Common.{◌≡◌, List, [], ◌∷◌, ◌++◌, sym, ap, ◌∙◌, append-nil}
use Rattle.std.specs.Prelude.{map}
use Rattle.std.proofs.lemmas.List.{map-append}
use Rattle.ts_name.specs.Canon.{Attr, CanonAttr, canon_attr, canon_rdn, sort_attrs}
use Rattle.ts_name.specs.CanonView.{attr_in}
use Rattle.ts_name.specs.View.{attr_of}
use Rattle.ts_name.specs.NameView.{attributes_in}
use Rattle.ts_name.proofs.Items.{goes}
use Rattle.ts_name.proofs.rdn.Rdn.canon.Goals as goal

pushed : {X : Type 0} (f : X → CanonAttr) (xs : List X) (x : X) → map f (xs ++ x ∷ []) ≡ map f xs ++ f x ∷ []
pushed f xs x = map-append f xs (x ∷ [])

pub loop-attribute-init : goal.loop-attribute-init
loop-attribute-init c = (tt, tt, [], sym (c.into_iter-attribute-iterator.ensures.into_iter_gives ∙ c.attributes-attribute-items.ensures), ap (map attr_in) c.new-attributes.ensures.items)

pub loop-attribute-preserved : goal.loop-attribute-preserved
loop-attribute-preserved c =
    let i = c.loop-attribute.invariant in
    let x = attr_of c.in-Some.attribute in
    let all = i.3 ∙ ap (λ (xs : List Attr). i.2 ++ xs) c.in-Some.ensures.steps in (
      tt,
      tt,
      i.2 ++ x ∷ [],
      goes (attributes_in c.args.self) i.2 c.next.new.self x all,
      ap (map attr_in) c.in_ok-push.ensures.items
          ∙ (pushed attr_in c.loop-attribute.attributes.items c.in_ok-canon.canon
          ∙ (ap (λ (xs : List CanonAttr). xs ++ attr_in c.in_ok-canon.canon ∷ []) i.4
          ∙ (ap (λ (z : CanonAttr). map canon_attr i.2 ++ z ∷ []) c.in_ok-canon.ensures
          ∙ sym (pushed canon_attr i.2 x)))),
    )

pub returns : goal.returns
unfolding canon_rdn
returns c =
    let i = c.loop-attribute.invariant in
    let all : attributes_in c.args.self ≡ i.2 = i.3 ∙ (ap (λ (xs : List Attr). i.2 ++ xs) c.in-None.ensures.steps.0 ∙ append-nil i.2) in
    c.from_attributes.ensures ∙ (ap sort_attrs i.4 ∙ ap canon_rdn (sym all))
