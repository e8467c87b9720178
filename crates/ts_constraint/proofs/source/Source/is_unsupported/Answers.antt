use Rattle.std.proofs.Common.{◌≡◌, ◌⊎◌, inl, inr, false, refl, sym, ap, ◌∙◌}
use Rattle.std.proofs.lemmas.Bool.{false≢true}
use Rattle.ts_constraint.specs.Conditions.{HasForm}
use Rattle.ts_constraint.specs.Names.{form_of, is_processed_form}
use Rattle.ts_constraint.specs.Source.{Source}
use Rattle.ts_constraint.specs.inside.Sought.{name_in}
use Rattle.ts_constraint.proofs.Lists.{of-form, some-left, some-right, some-either}
use Rattle.ts_constraint.proofs.source.Source.is_unsupported.Goals as goal

pub returns-then-has_form : goal.returns-then-has_form
returns-then-has_form c =
    let s = c.args.self.now in
    let permitted = ap (λ (x : Source). x.permitted) c.self.view_is in
    let unprocessed : is_processed_form (form_of (name_in c.args.name.now)) ≡ false = ap is_processed_form (sym c.form-form.ensures) ∙ sym c.if-is_processed.ensures in
    (λ t. (unprocessed, some-left (HasForm (name_in c.args.name.now)) s.permitted s.excluded (of-form _ _ _ _ c.form-form.ensures permitted (c.if-has_form.ensures.0 refl))), λ f. refl)

pub returns : goal.returns
returns c =
    let s = c.args.self.now in
    let name = name_in c.args.name.now in
    let permitted = ap (λ (x : Source). x.permitted) c.self.view_is in
    let excluded = ap (λ (x : Source). x.excluded) c.self.view_is in
    let unprocessed : is_processed_form (form_of name) ≡ false = ap is_processed_form (sym c.form-form.ensures) ∙ sym c.if-is_processed.ensures in (
      λ t. (unprocessed, some-right (HasForm name) s.permitted s.excluded (of-form _ _ _ _ c.form-form.ensures excluded (c.has_form-2.ensures.0 t))),
      λ f. elim (some-either (HasForm name) s.permitted s.excluded f.1) [
        | inl p ↦ absurd (false≢true (c.if-has_form.ensures.1 (of-form _ _ _ _ (sym c.form-form.ensures) (sym permitted) p)))
        | inr q ↦ c.has_form-2.ensures.1 (of-form _ _ _ _ (sym c.form-form.ensures) (sym excluded) q)
      ],
    )
