-- A number is that of one reason, or of none.
use Rattle.std.proofs.Common.{◌∙◌, ap}
use Rattle.ts_ext.specs.Table.{reason_of_number}
use Rattle.ts_script.proofs.CrlReading.{reason_read, reason_great}
use Rattle.ts_script.proofs.crl_words.reason_of.Goals as goal

pub returns-in-Ok : goal.returns-in-Ok
returns-in-Ok c =
    reason_read c.args.value.now c.in_ok-number_of_octets.field-0 c.of_number.result c.in_ok-number_of_octets.ensures (c.of_number.ensures ∙ ap reason_of_number c.in-Ok.ensures.1)

pub returns-in-Err : goal.returns-in-Err
returns-in-Err c = reason_great c.args.value.now c.in_ok-number_of_octets.field-0 c.in_ok-number_of_octets.ensures c.in-Err.ensures
