-- A time (RFC 5280 4.1.2.5, 5.1.2.4): its one encoding in each of two forms, and how it is read.
use Rattle.std.specs.Prelude.{◌==◌, ℕ, List, ℤ, Result, Ok, Err, if◌then◌else◌}
use Rattle.ts_der.specs.declared.fault.DerFault.TheVariants.{WrongTag}
use Rattle.ts_der.specs.declared.fault.Fault.{Fault}
use Rattle.ts_der.specs.Answer.{◌>>=◌}
use Rattle.ts_der.specs.Element.{Place, Tlv}
use Rattle.ts_der.specs.Reading.{fault_at, at_element, next_at}
use Rattle.ts_time.specs.Reading.{utc_value, general_value}
use Rattle.ts_time.specs.Text.{IsUtc, IsGeneral}
use Rattle.ts_shape.specs.Fields.{Within}
use Rattle.ts_field.specs.declared.time.TimeForm.{TimeForm}
use Rattle.ts_field.specs.declared.time.TimeForm.TheVariants.{Utc, General}
use Rattle.ts_field.specs.declared.time.Time.{Time}

-- ---- its encoding

-- Time ::= CHOICE { utcTime UTCTime, generalTime GeneralizedTime }
abbrev pub IsTimeIn : TimeForm → List ℕ → ℤ → Type 0
IsTimeIn Utc octets moment = Within 0x17 IsUtc octets moment
IsTimeIn General octets moment = Within 0x18 IsGeneral octets moment

abbrev pub IsTime : List ℕ → Time → Type 0
IsTime octets t = IsTimeIn t.form octets t.moment

-- ---- reading it, up to the first rule that is broken

-- Time ::= CHOICE { utcTime UTCTime, generalTime GeneralizedTime }
unfoldable pub time_of : Tlv → Result Time Fault
time_of e =
    if e.tag == 0x17 then (at_element e.at (utc_value e.content) >>= λ m. Ok
    (record { form = Utc; moment = m }))
    else (if e.tag == 0x18 then (at_element e.at (general_value e.content) >>= λ m. Ok
    (record { form = General; moment = m }))
    else Err (fault_at e.at WrongTag))

unfoldable pub time_at : Place → Result (Time × Place) Fault
time_at here = do
  e ← next_at here
  time ← time_of e.0
  Ok (time, e.1)
