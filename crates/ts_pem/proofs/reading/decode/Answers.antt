-- The octets that a text decodes to, less the error.
use Rattle.std.proofs.Common.{sym, ap}
use Rattle.std.specs.Result.{result_ok}
use Rattle.base64.specs.GeneralPurpose.{decoded_of}
use Rattle.ts_pem.specs.Pem.{decode}
use Rattle.ts_pem.proofs.reading.decode.Goals as goal

pub returns-in-Ok : goal.returns-in-Ok
unfolding decode decoded_of
returns-in-Ok c = sym (ap result_ok c.in-Ok.ensures.ok)

pub returns-in-Err-DecodeError : goal.returns-in-Err-DecodeError
unfolding decode decoded_of
returns-in-Err-DecodeError c = let failed = rw c.in-Err-DecodeError.field-0-is at c.in-Err-DecodeError.ensures.err in sym (ap result_ok failed)
