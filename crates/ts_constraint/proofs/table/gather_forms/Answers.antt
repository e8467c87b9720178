use Rattle.std.proofs.Common.{◌≡◌, ◌+◌, List, [], drop, refl, ap, sym, subst, ◌∙◌}
use Rattle.std.proofs.lemmas.List.{drop_all}
use Rattle.ts_name.specs.General.{GeneralName}
use Rattle.ts_name.specs.SubtreeView.{subtree_in}
use Rattle.ts_constraint.specs.Names.{form_of}
use Rattle.ts_constraint.specs.View.{bases_in}
use Rattle.ts_constraint.proofs.Tables.{Left, forms-again-in, forms-more-in, forms-all, next-base}
use Rattle.ts_constraint.proofs.table.gather_forms.Goals as goal

pub loop-subtree-preserved : goal.loop-subtree-preserved
loop-subtree-preserved c =
    let xs = c.args.subtrees.now in
    let i = c.loop-subtree.subtree-index in
    let x = c.subtree-item.result in
    forms-more-in c.loop-subtree.forms.items c.push.new.self.items c.of-form.result (subtree_in x).base (bases_in (drop i xs)) (bases_in (drop (i + 1) xs)) (bases_in xs)
    c.in_ok-push.ensures.items (c.of-form.ensures ∙ ap form_of c.base.ensures) (next-base xs i x c.loop-subtree-test.true c.subtree-item.is) c.loop-subtree.invariant

pub loop-subtree-preserved-then-contains : goal.loop-subtree-preserved-then-contains
loop-subtree-preserved-then-contains c =
    let xs = c.args.subtrees.now in
    let i = c.loop-subtree.subtree-index in
    let x = c.subtree-item.result in
    forms-again-in c.loop-subtree.forms.items c.as_slice.result.now c.of-form.result (subtree_in x).base (bases_in (drop i xs)) (bases_in (drop (i + 1) xs)) (bases_in xs)
    c.as_slice.ensures.value (c.of-form.ensures ∙ ap form_of c.base.ensures) (next-base xs i x c.loop-subtree-test.true c.subtree-item.is) c.loop-subtree.invariant (c.if-contains.ensures.0 refl)

pub returns : goal.returns
returns c =
    let xs = c.args.subtrees.now in
    let none = drop_all c.loop-subtree.subtree-index xs c.loop-subtree-test.false in
    forms-all c.loop-subtree.forms.items (bases_in xs) (subst (λ (ys : List GeneralName). Left c.loop-subtree.forms.items ys (bases_in xs)) (ap bases_in none) c.loop-subtree.invariant)
