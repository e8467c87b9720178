-- A line is refused as its words are.
use Rattle.std.proofs.lemmas.Result.{err_from_is_err_and}
use Rattle.ts_script.specs.declared.cert_line.CertWords.{CertWords}
use Rattle.ts_script.specs.Known.{known_in}
use Rattle.ts_script.specs.Objects.{a_certificate, IsLine}
use Rattle.ts_script.proofs.Answering.{some_of_ok}
use Rattle.ts_script.proofs.Objects.{words_refused}
use Rattle.ts_script.proofs.cert_line.answer_cert.Goals as goal

pub returns-in_err-octets-clause-fault : goal.returns-in_err-octets-clause-fault
returns-in_err-octets-clause-fault c =
    let line = c.args.line.now in
    let p = err_from_is_err_and c.from_residual-in_err-octets.result c.from_residual-in_err-octets.ensures.1 in
    let is = some_of_ok ((w : CertWords) → ¬ (IsLine a_certificate line w)) (IsLine a_certificate line) c.of.result c.in_ok-words.words c.in_ok-words.ensures.value c.of.ensures in
    rw (p.1, p.2) (words_refused a_certificate (known_in c.args.known.now) line c.in_ok-words.words c.in_err-octets.field-0.0 is c.in_err-octets.ensures)
