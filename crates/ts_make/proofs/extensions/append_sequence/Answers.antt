use Rattle.std.proofs.Common.{◌<◌, length, arith}
use Rattle.std.proofs.lemmas.Result.{err_from_is_err_and}
use Rattle.std.proofs.lemmas.Grind.{common_steps}
use Rattle.ts_make.proofs.TooLong.{longer, sequence-value}
use Rattle.ts_make.proofs.extensions.append_sequence.Goals as goal

pub returns-in_err-value : goal.returns-in_err-value
returns-in_err-value c =
    let p = err_from_is_err_and c.from_residual.result c.from_residual.ensures.1 in
    let some : 0 < length c.args.content.now = grind (arith, common_steps) in
    let within = sequence-value c.args.octets.now.items c.args.arc c.args.critical c.args.content.now some in
    rw (p.1, p.2) (longer c.in_err-value.field-0.0 _ _ c.in_err-value.ensures within)
