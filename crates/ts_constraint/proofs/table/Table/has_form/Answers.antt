use Rattle.ts_constraint.specs.View.{bases_in}
use Rattle.ts_constraint.proofs.Tables.{of-form-held}
use Rattle.ts_constraint.proofs.table.Table.has_form.Goals as goal

pub returns : goal.returns
returns c =
    of-form-held c.args.form c.as_slice.result.now c.self.inside.forms.items
    (bases_in c.self.inside.subtrees.items) c.args.self.now c.contains.result
    c.as_slice.ensures.value c.self.view_is c.contains.ensures
    (c.self.invariant.forms_are c.args.form)
