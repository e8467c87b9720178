-- Entries by their serial numbers alone (RFC 5280 5.1.2.6): how an entry that was read before is
-- found again.
use Rattle.std.specs.Prelude.{ℕ, List, Result, Ok}
use Rattle.ts_der.specs.declared.fault.Fault.{Fault}
use Rattle.ts_der.specs.Answer.{◌>>=◌}
use Rattle.ts_der.specs.Element.{Tlv, inside}
use Rattle.ts_der.specs.Reading.{element_at}

-- the content of an entry's first INTEGER, and the entry
pub record Mark : Type 0 where
  pub userCertificate : List ℕ
  pub entry : Tlv

unfoldable pub mark_of : Tlv → Result Mark Fault
mark_of e = element_at 0x02 (inside e) >>= λ serial. Ok
    (record { userCertificate = serial.0.content; entry = e })
