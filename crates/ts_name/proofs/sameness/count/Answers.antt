use Rattle.std.proofs.Common.{◌≡◌, ◌+◌, List, [], ◌∷◌, ◌++◌, refl, sym, ap, ◌∙◌, arith}
use Rattle.std.specs.Prelude.{map}
use Rattle.ts_name.specs.Canon.{Attr, canon_attr, count_of}
use Rattle.ts_name.specs.View.{attr_of}
use Rattle.ts_name.specs.NameView.{attributes_in}
use Rattle.ts_name.proofs.Items.{few, front-short, goes, count-more, count-short, same-counts, other-counts}
use Rattle.ts_name.proofs.sameness.count.Goals as goal

pub overflow_add-count : goal.overflow_add-count
overflow_add-count c =
    let i = c.loop-other.invariant in
    let all = i.3 ∙ ap (λ (xs : List Attr). i.2 ++ xs) c.in-Some.ensures.steps in
    let short = front-short (attributes_in c.args.rdn) i.2 c.next.new.self (attr_of c.in-Some.other) all in
    let counted = count-short (canon_attr (attr_of c.args.attribute)) i.2 in
    let bound = few c.args.rdn in
    let is = i.4 in
    omega arith

pub loop-other-preserved-then-same : goal.loop-other-preserved-then-same
loop-other-preserved-then-same c =
    let i = c.loop-other.invariant in
    let z = canon_attr (attr_of c.args.attribute) in
    let x = attr_of c.in-Some.other in
    let all = i.3 ∙ ap (λ (xs : List Attr). i.2 ++ xs) c.in-Some.ensures.steps in
    let more = count-more z i.2 x ∙ ap (λ n. count_of z (map canon_attr i.2) + n) (same-counts z (canon_attr x) (c.if-same.ensures.0 refl)) in
    (tt, tt, i.2 ++ x ∷ [], goes (attributes_in c.args.rdn) i.2 c.next.new.self x all, ap (λ n. n + 1) i.4 ∙ sym more)

pub loop-other-preserved : goal.loop-other-preserved
loop-other-preserved c =
    let i = c.loop-other.invariant in
    let z = canon_attr (attr_of c.args.attribute) in
    let x = attr_of c.in-Some.other in
    let all = i.3 ∙ ap (λ (xs : List Attr). i.2 ++ xs) c.in-Some.ensures.steps in
    let more = count-more z i.2 x ∙ ap (λ n. count_of z (map canon_attr i.2) + n) (other-counts z (canon_attr x) (λ e. let t = c.if-same.ensures.1 e in absurd cc)) in
    let none : count_of z (map canon_attr i.2) + 0 ≡ count_of z (map canon_attr i.2) = omega arith in
    (tt, tt, i.2 ++ x ∷ [], goes (attributes_in c.args.rdn) i.2 c.next.new.self x all, i.4 ∙ sym (more ∙ none))
