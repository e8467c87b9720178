use Rattle.std.proofs.lemmas.Result.{err_from_is_err_and}
use Rattle.ts_make.specs.CrlExtensions.{reason_extension}
use Rattle.ts_make.proofs.TooLong.{longer, value-alone}
use Rattle.ts_make.proofs.crl_extensions.append_reason.Goals as goal

pub returns-in_err-value : goal.returns-in_err-value
returns-in_err-value c =
    let p = err_from_is_err_and c.from_residual.result c.from_residual.ensures.1 in
    let h = rw c.number.ensures at c.in_err-value.ensures in
    rw (p.1, p.2) (longer c.in_err-value.field-0.0 _ _ h (value-alone c.args.octets.now.items (reason_extension c.args.reason)))
