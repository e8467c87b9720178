use Rattle.std.proofs.Common.{◌≡◌, List, [], ◌∷◌, ◌++◌, refl, sym, ap, subst, ◌∙◌, append-nil}
use Rattle.ts_name.specs.Canon.{Attr}
use Rattle.ts_name.specs.View.{attr_of}
use Rattle.ts_name.specs.NameView.{attributes_in}
use Rattle.ts_name.proofs.Items.{goes}
use Rattle.ts_name.proofs.Counting.{SameCounts, counts-more, one-if-counts, counts-if-one, lengths-if-one}
use Rattle.ts_name.proofs.sameness.are_one_by_counts.Goals as goal

pub returns-then-size : goal.returns-then-size
returns-then-size c =
    (λ t. absurd cc, λ one. absurd (c.if-size.true (c.size.ensures ∙ (lengths-if-one (attributes_in c.args.a) (attributes_in c.args.b) one ∙ sym c.size-2.ensures))))

pub returns-then-count : goal.returns-then-count
returns-then-count c = (
  λ t. absurd cc,
  λ one. absurd
      (c.if-count.true (c.count.ensures
      ∙ (counts-if-one (attributes_in c.args.a) (attributes_in c.args.b) one
      (attr_of c.in-Some.attribute) ∙ sym c.count-in-loop-attribute.ensures))),
)

pub loop-attribute-preserved : goal.loop-attribute-preserved
loop-attribute-preserved c =
    let i = c.loop-attribute.invariant in
    let x = attr_of c.in-Some.attribute in
    let all = i.3 ∙ ap (λ (xs : List Attr). i.2 ++ xs) c.in-Some.ensures.steps in (
      tt,
      tt,
      i.2 ++ x ∷ [],
      goes (attributes_in c.args.a) i.2 c.next.new.self x all,
      counts-more (attributes_in c.args.a) (attributes_in c.args.b) i.2 x i.4 (sym c.count.ensures ∙ (c.if-count.false ∙ c.count-in-loop-attribute.ensures)),
    )

pub returns : goal.returns
returns c =
    let i = c.loop-attribute.invariant in
    let all : attributes_in c.args.a ≡ i.2 = i.3 ∙ (ap (λ (xs : List Attr). i.2 ++ xs) c.in-None.ensures.steps.0 ∙ append-nil i.2) in (
      λ t. one-if-counts (attributes_in c.args.a) (attributes_in c.args.b) (sym c.size.ensures ∙ (c.if-size.false ∙ c.size-2.ensures))
          (subst (λ (these : List Attr). SameCounts (attributes_in c.args.a) (attributes_in c.args.b) these) (sym all) i.4),
      λ one. refl,
    )
