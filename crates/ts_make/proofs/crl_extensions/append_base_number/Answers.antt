use Rattle.std.proofs.Common.{true}
use Rattle.std.proofs.lemmas.Result.{err_from_is_err_and}
use Rattle.ts_der.specs.Element.{encode}
use Rattle.ts_make.specs.Serial.{serial_content}
use Rattle.ts_make.specs.Extensions.{extension, id_ce}
use Rattle.ts_make.proofs.TooLong.{longer, value-within}
use Rattle.ts_make.proofs.crl_extensions.append_base_number.Goals as goal

pub returns-in_err-append_number-clause-exact : goal.returns-in_err-append_number-clause-exact
returns-in_err-append_number-clause-exact c =
    let p = err_from_is_err_and c.from_residual.result c.from_residual.ensures.1 in
    let h = rw c.new-value.ensures.items at c.in_err-append_number.ensures in
    let within = value-within c.args.octets.now.items (extension (id_ce 27) true (encode 0x02 (serial_content c.in-Some.n))) in
    rw (p.1, p.2, c.in-Some.is) (longer c.in_err-append_number.field-0.0 _ _ h within)
