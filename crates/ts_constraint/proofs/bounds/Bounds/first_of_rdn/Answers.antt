use Rattle.std.proofs.Common.{◌≡◌, List, [], ◌∷◌, ◌++◌, refl, sym, ap, subst, ◌∙◌, append-nil}
use Rattle.std.proofs.lemmas.Bool.{false≢true}
use Rattle.ts_name.specs.Canon.{Attr}
use Rattle.ts_name.specs.General.{GeneralName, rfc822Name}
use Rattle.ts_name.specs.NameView.{attributes_in}
use Rattle.ts_name.specs.View.{attr_of}
use Rattle.ts_constraint.specs.Conditions.{EachNameMeets}
use Rattle.ts_constraint.specs.Names.{addresses_of}
use Rattle.ts_constraint.proofs.Lists.{first-here, meets-more}
use Rattle.ts_constraint.proofs.Shown.{goes, addresses-append, no-address, an-address, address-at}
use Rattle.ts_constraint.proofs.bounds.Bounds.first_of_rdn.Goals as goal

pub loop-attribute-preserved-then-not-is_address : goal.loop-attribute-preserved-then-not-is_address
loop-attribute-preserved-then-not-is_address c =
    let i = c.loop-attribute.invariant in
    let x = attr_of c.in-Some.attribute in
    let all = i.3 ∙ ap (λ (xs : List Attr). i.2 ++ xs) c.in-Some.ensures.steps in
    let none : addresses_of (i.2 ++ x ∷ []) ≡ addresses_of i.2 =
    addresses-append i.2 (x ∷ []) ∙ (ap (λ (xs : List GeneralName). addresses_of i.2 ++ xs) (no-address x c.if-not-is_address.ensures) ∙ append-nil (addresses_of i.2)) in
    (tt, tt, i.2 ++ x ∷ [], goes (attributes_in c.args.rdn) i.2 _ x all, subst (λ (xs : List GeneralName). EachNameMeets c.args.condition c.args.self.now xs) (sym none) i.4)

pub loop-attribute-preserved : goal.loop-attribute-preserved
loop-attribute-preserved c =
    let i = c.loop-attribute.invariant in
    let x = attr_of c.in-Some.attribute in
    let all = i.3 ∙ ap (λ (xs : List Attr). i.2 ++ xs) c.in-Some.ensures.steps in
    let one : addresses_of (i.2 ++ x ∷ []) ≡ addresses_of i.2 ++ rfc822Name x.value ∷ [] =
    addresses-append i.2 (x ∷ []) ∙ ap (λ (xs : List GeneralName). addresses_of i.2 ++ xs) (an-address x c.if-not-is_address.ensures) in (
      tt,
      tt,
      i.2 ++ x ∷ [],
      goes (attributes_in c.args.rdn) i.2 _ x all,
      subst (λ (xs : List GeneralName). EachNameMeets c.args.condition c.args.self.now xs) (sym one)
          (meets-more c.args.condition c.args.self.now (addresses_of i.2) (rfc822Name x.value) i.4 (λ f. false≢true (c.if-fails.ensures.1 f))),
    )

pub returns-then-fails : goal.returns-then-fails
returns-then-fails c =
    let i = c.loop-attribute.invariant in
    let x = attr_of c.in-Some.attribute in
    let all = i.3 ∙ ap (λ (xs : List Attr). i.2 ++ xs) c.in-Some.ensures.steps in
    first-here c.args.condition c.args.self.now (addresses_of (attributes_in c.args.rdn)) (addresses_of i.2) (addresses_of c.next.new.self) (rfc822Name x.value)
    (ap addresses_of all ∙ address-at i.2 c.next.new.self x c.if-not-is_address.ensures) i.4 (c.if-fails.ensures.0 refl)
