-- What an entry is refused as.
use Rattle.std.proofs.lemmas.Result.{err_from_is_err_and}
use Rattle.ts_script.proofs.Decoding.{refused_more}
use Rattle.ts_script.proofs.crl_words.CrlWord.read_value.Goals as goal

pub returns-in_err-entry_in-in-Entry-clause-fault : goal.returns-in_err-entry_in-in-Entry-clause-fault
returns-in_err-entry_in-in-Entry-clause-fault c =
    let p = err_from_is_err_and c.from_residual.result c.from_residual.ensures.1 in
    rw (p.1, p.2, c.in-Entry.is) (refused_more c.in_err-entry_in-in-Entry.field-0.0 (λ none part says. none says.0 says.1) c.in_err-entry_in-in-Entry.ensures.fault)
