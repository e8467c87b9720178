use Rattle.std.proofs.Common.{true}
use Rattle.std.proofs.lemmas.Result.{err_from_is_err_and}
use Rattle.ts_make.specs.CrlExtensions.{scope_content}
use Rattle.ts_make.proofs.TooLong.{longer, sequence-within}
use Rattle.ts_make.proofs.crl_extensions.append_scope.Goals as goal

pub returns-in_err-content : goal.returns-in_err-content
returns-in_err-content c =
    let p = err_from_is_err_and c.from_residual.result c.from_residual.ensures.1 in
    let within = sequence-within c.args.octets.now.items 28 true (scope_content c.args.uris.now c.args.reasons.now) in
    rw (p.1, p.2) (longer c.in_err-content.field-0.0 _ _ c.in_err-content.ensures within)
