use Rattle.std.proofs.Common.{◌≡◌, List, true, refl, sym, ap, subst, ◌∙◌}
use Rattle.std.proofs.lemmas.Bool.{false≢true}
use Rattle.ts_name.specs.General.{GeneralName}
use Rattle.ts_name.specs.Holds.{Holds}
use Rattle.ts_constraint.specs.Conditions.{Some_of}
use Rattle.ts_constraint.specs.Names.{form_of, is_processed_form}
use Rattle.ts_constraint.specs.Source.{Source}
use Rattle.ts_constraint.specs.inside.Sought.{name_in}
use Rattle.ts_constraint.proofs.Lists.{of-form, none-of, not-some, not-true, true-not}
use Rattle.ts_constraint.proofs.source.Source.is_not_permitted.Goals as goal

pub returns-then-not-has_form : goal.returns-then-not-has_form
returns-then-not-has_form c =
    let s = c.args.self.now in
    let permitted = ap (λ (x : Source). x.permitted) c.self.view_is in
    (λ t. absurd (false≢true t), λ f. c.if-not-has_form.ensures.1 (of-form _ _ _ _ (sym c.form-form.ensures) (sym permitted) f.1))

pub returns : goal.returns
returns c =
    let s = c.args.self.now in
    let name = name_in c.args.name.now in
    let permitted = ap (λ (x : Source). x.permitted) c.self.view_is in
    let processed : is_processed_form (form_of name) ≡ true = ap is_processed_form (sym c.form-form.ensures) ∙ sym c.if-not-is_processed.ensures in (
      λ t. (
        processed,
        of-form _ _ _ _ c.form-form.ensures permitted (c.if-not-has_form.ensures.0 refl),
        none-of (λ base. Holds base name) s.permitted
            (λ some. true-not c.holds.result t
            (c.holds.ensures.1 (subst
            (λ (xs : List GeneralName). Some_of (λ base. Holds base name) xs)
            (sym permitted) some))),
      ),
      λ f. not-true c.holds.result (λ e. not-some (λ base. Holds base name) s.permitted f.2 (subst (λ (xs : List GeneralName). Some_of (λ base. Holds base name) xs) permitted (c.holds.ensures.0 e))),
    )
