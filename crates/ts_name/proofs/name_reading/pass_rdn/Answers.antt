use Rattle.std.proofs.lemmas.Result.{err_from_is_err_and}
use Rattle.ts_der.specs.View.{now}
use Rattle.ts_name.specs.Names.{rdn_of}
use Rattle.ts_shape.proofs.Walks.{passes, fails}
use Rattle.ts_name.proofs.name_reading.pass_rdn.Goals as goal

pub returns-in_err-set : goal.returns-in_err-set
returns-in_err-set c =
    let p = err_from_is_err_and c.from_residual.result c.from_residual.ensures.1 in
    rw (p.1, p.2) (fails 0x31 rdn_of c.args.rest.now c.in_err-set.field-0.0 c.in_err-set.ensures.exact.0)

pub returns : goal.returns
returns c = passes 0x31 rdn_of c.args.rest.now (now c.in_ok-set.set) c.element.new.self c.check_rdn.result c.in_ok-set.ensures.exact c.check_rdn.ensures
