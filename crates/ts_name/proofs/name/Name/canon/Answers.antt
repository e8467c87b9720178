use Rattle.std.proofs.Common.{◌≡◌, List, [], ◌∷◌, ◌++◌, sym, ap, ◌∙◌, append-nil}
use Rattle.ts_name.specs.Canon.{Attr, CanonAttr, canon_rdn}
use Rattle.ts_name.specs.CanonView
use Rattle.ts_name.specs.NameView.{attributes_in, rdns_in}
use Rattle.ts_name.specs.Sameness.{canon_name}
use Rattle.ts_name.proofs.Items.{goes}
use Rattle.ts_name.proofs.NameLists.{name-more, name-none}
use Rattle.ts_name.proofs.name.Name.canon.Goals as goal

pub loop-rdn-init : goal.loop-rdn-init
loop-rdn-init c = (tt, tt, [], sym (c.into_iter-rdn-iterator.ensures.into_iter_gives ∙ c.rdns-rdn-items.ensures), c.new-canon.ensures ∙ sym name-none)

pub loop-rdn-preserved : goal.loop-rdn-preserved
loop-rdn-preserved c =
    let i = c.loop-rdn.invariant in
    let x = attributes_in c.in-Some.rdn in
    let all = i.3 ∙ ap (λ (xs : List (List Attr)). i.2 ++ xs) c.in-Some.ensures.steps in (
      tt,
      tt,
      i.2 ++ x ∷ [],
      goes (rdns_in c.args.self) i.2 c.next.new.self x all,
      c.in_ok-push.ensures.ok
          ∙ (ap (λ (r : List CanonAttr). CanonView.rdns_in c.loop-rdn.canon ++ r ∷ [])
          c.in_ok-rdn.ensures ∙ (ap (λ (xs : List (List CanonAttr)). xs ++ canon_rdn x ∷ []) i.4
          ∙ sym (name-more i.2 x))),
    )

pub returns : goal.returns
returns c =
    let i = c.loop-rdn.invariant in
    let all : rdns_in c.args.self ≡ i.2 = i.3 ∙ (ap (λ (xs : List (List Attr)). i.2 ++ xs) c.in-None.ensures.steps.0 ∙ append-nil i.2) in
    i.4 ∙ ap canon_name (sym all)
