use Rattle.std.proofs.lemmas.Result.{err_from_is_err_and}
use Rattle.ts_make.proofs.TooLong.{longer}
use Rattle.ts_make.proofs.CrlPieces.{nulls-next}
use Rattle.ts_make.proofs.crl_extensions.append_nulls.Goals as goal

pub returns-in_err-append_extension : goal.returns-in_err-append_extension
returns-in_err-append_extension c =
    let p = err_from_is_err_and c.from_residual.result c.from_residual.ensures.1 in
    let h = rw (c.loop-oid.invariant, c.as_slice.ensures) at c.in_err-append_extension.ensures in
    let front = nulls-next c.args.octets.now.items c.args.critical.now c.loop-oid.oid-index _ c.loop-oid-test.true c.oid-item.is in
    rw (p.1, p.2) (longer c.in_err-append_extension.field-0.0 _ _ h front)
