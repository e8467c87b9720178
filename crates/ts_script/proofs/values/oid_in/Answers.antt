-- The dotted form of an object identifier is text.
use Rattle.std.proofs.lemmas.Result.{err_from_is_err_and}
use Rattle.ts_script.proofs.Decoding.{refused_more}
use Rattle.ts_script.proofs.DottedText.{IsDotted-IsText}
use Rattle.ts_script.proofs.values.oid_in.Goals as goal

pub returns-in_err-text_in-clause-fault : goal.returns-in_err-text_in-clause-fault
returns-in_err-text_in-clause-fault c =
    let p = err_from_is_err_and c.from_residual.result c.from_residual.ensures.1 in
    rw (p.1, p.2) (refused_more c.in_err-text_in.field-0.0 (λ none content is. none c.args.value.now (IsDotted-IsText c.args.value.now content is)) c.in_err-text_in.ensures.fault)
