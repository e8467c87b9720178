use Rattle.std.proofs.Common.{◌+◌, List, [], ◌∷◌, ◌++◌, sym, ap, ◌∙◌, arith}
use Rattle.ts_name.specs.Canon.{Attr}
use Rattle.ts_name.specs.View.{attr_of}
use Rattle.ts_name.specs.NameView.{attributes_in}
use Rattle.ts_name.proofs.Items.{few, front-short, goes, length-more}
use Rattle.ts_name.proofs.sameness.size.Goals as goal

pub overflow_add-size : goal.overflow_add-size
overflow_add-size c =
    let i = c.loop.invariant in
    let all = i.3 ∙ ap (λ (xs : List Attr). i.2 ++ xs) c.in-Some.ensures.steps in
    let short = front-short (attributes_in c.args.rdn) i.2 c.next.new.self (attr_of c.in-Some.field-0) all in
    let bound = few c.args.rdn in
    let is = i.4 in
    omega arith

pub loop-preserved : goal.loop-preserved
loop-preserved c =
    let i = c.loop.invariant in
    let x = attr_of c.in-Some.field-0 in
    let all = i.3 ∙ ap (λ (xs : List Attr). i.2 ++ xs) c.in-Some.ensures.steps in
    (tt, tt, i.2 ++ x ∷ [], goes (attributes_in c.args.rdn) i.2 c.next.new.self x all, ap (λ n. n + 1) i.4 ∙ sym (length-more i.2 x))
