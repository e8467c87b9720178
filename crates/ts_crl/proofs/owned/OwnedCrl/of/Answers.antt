use Rattle.std.proofs.Common.{sym, ◌∙◌}
use Rattle.ts_crl.proofs.Checking.{not-kept, refused}
use Rattle.ts_crl.proofs.Borrowing.{unfaulted, none-some}
use Rattle.ts_crl.proofs.owned.OwnedCrl.of.Goals as goal

pub returns-in_err-checked-clause-kept : goal.returns-in_err-checked-clause-kept
returns-in_err-checked-clause-kept c = not-kept c.args.octets.now c.in_err-checked.field-0.0 c.from_residual.result c.in_err-checked.ensures c.from_residual.ensures.1

pub returns-in_err-checked-clause-refused : goal.returns-in_err-checked-clause-refused
returns-in_err-checked-clause-refused c = refused c.args.octets.now c.in_err-checked.field-0.0 c.from_residual.result c.in_err-checked.ensures c.from_residual.ensures.1

pub returns-in_err-octets-clause-refused : goal.returns-in_err-octets-clause-refused
returns-in_err-octets-clause-refused c f some = absurd (none-some f (sym (unfaulted c.in_ok-checked.checked.first c.args.octets.now c.in_ok-checked.ensures.0) ∙ some))

pub returns-clause-refused : goal.returns-clause-refused
returns-clause-refused c f some = none-some f (sym (unfaulted c.in_ok-checked.checked.first c.args.octets.now c.in_ok-checked.ensures.0) ∙ some)
