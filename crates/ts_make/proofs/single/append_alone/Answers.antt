use Rattle.std.proofs.Common.{true}
use Rattle.std.proofs.lemmas.Result.{err_from_is_err_and}
use Rattle.ts_der.specs.Element.{encode}
use Rattle.ts_make.specs.Serial.{serial_content}
use Rattle.ts_make.specs.Extensions.{extension, id_ce, basic_constraints_value}
use Rattle.ts_make.proofs.TooLong.{longer, value-within}
use Rattle.ts_make.proofs.single.append_alone.Goals as goal

pub returns-in_err-value-in-BasicConstraints-BasicConstraints : goal.returns-in_err-value-in-BasicConstraints-BasicConstraints
returns-in_err-value-in-BasicConstraints-BasicConstraints c =
    let p = err_from_is_err_and c.from_residual.result c.from_residual.ensures.1 in
    let e = c.in_err-value-in-BasicConstraints-BasicConstraints.field-0.0 in
    let h = c.in_err-value-in-BasicConstraints-BasicConstraints.ensures in
    let within = value-within c.args.octets.now.items (extension (id_ce 19) true (basic_constraints_value c.in-BasicConstraints-BasicConstraints.length)) in
    rw (p.1, p.2, c.in-BasicConstraints-BasicConstraints.is-0, c.in-BasicConstraints-BasicConstraints.is-1) (longer e _ _ h within)

pub returns-in_err-append_number-in-InhibitAnyPolicy-InhibitAnyPolicy : goal.returns-in_err-append_number-in-InhibitAnyPolicy-InhibitAnyPolicy
returns-in_err-append_number-in-InhibitAnyPolicy-InhibitAnyPolicy c =
    let p = err_from_is_err_and c.from_residual-in_err-append_number-in-InhibitAnyPolicy-InhibitAnyPolicy.result c.from_residual-in_err-append_number-in-InhibitAnyPolicy-InhibitAnyPolicy.ensures.1 in
    let e = c.in_err-append_number-in-InhibitAnyPolicy-InhibitAnyPolicy.field-0.0 in
    let h = rw c.new-value.ensures.items at c.in_err-append_number-in-InhibitAnyPolicy-InhibitAnyPolicy.ensures in
    let within = value-within c.args.octets.now.items (extension (id_ce 54) true (encode 0x02 (serial_content c.in-InhibitAnyPolicy-InhibitAnyPolicy.n))) in
    rw (p.1, p.2, c.in-InhibitAnyPolicy-InhibitAnyPolicy.is-0, c.in-InhibitAnyPolicy-InhibitAnyPolicy.is-1) (longer e _ _ h within)
