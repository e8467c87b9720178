use Rattle.std.proofs.Common.{◌≡◌, List, [], ◌∷◌, ◌++◌, refl, sym, ap, subst, ◌∙◌}
use Rattle.std.proofs.lemmas.Bool.{false≢true}
use Rattle.ts_shape.specs.Items.{items_at}
use Rattle.ts_name.specs.General.{GeneralName, general_of}
use Rattle.ts_name.specs.GeneralView.{general_in}
use Rattle.ts_ext.specs.NameViews.{alternatives_in}
use Rattle.ts_constraint.specs.declared.form.Form.{Form}
use Rattle.ts_constraint.specs.Conditions.{FirstNameFails}
use Rattle.ts_constraint.proofs.Lists.{first-here, meets-more}
use Rattle.ts_constraint.proofs.Shown.{goes}
use Rattle.ts_constraint.proofs.bounds.Bounds.first_of_names.Goals as goal

pub returns-then-fails : goal.returns-then-fails
returns-then-fails c =
    let i = c.loop-name.invariant in
    let x = general_in c.in-Some.name in
    let all = i.3 ∙ ap (λ (xs : List GeneralName). i.2 ++ xs) c.in-Some.ensures.steps in
    subst (λ (f : Form). FirstNameFails c.args.condition c.args.self.now (alternatives_in c.args.names) f) (sym c.of.ensures)
    (first-here c.args.condition c.args.self.now (alternatives_in c.args.names) i.2 (items_at general_of c.next.new.self.rest) x all i.4 (c.if-fails.ensures.0 refl))

pub loop-name-preserved : goal.loop-name-preserved
loop-name-preserved c =
    let i = c.loop-name.invariant in
    let x = general_in c.in-Some.name in
    let all = i.3 ∙ ap (λ (xs : List GeneralName). i.2 ++ xs) c.in-Some.ensures.steps in (
      tt,
      tt,
      i.2 ++ x ∷ [],
      goes (alternatives_in c.args.names) i.2 _ x all,
      meets-more c.args.condition c.args.self.now i.2 x i.4 (λ f. false≢true (c.if-fails.ensures.1 f)),
    )
