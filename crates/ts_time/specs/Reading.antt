-- What the content octets of a UTCTime or GeneralizedTime are read as: the moment that they name,
-- or `TimeForm`.
use Rattle.std.specs.Prelude.{ℕ, ◌+◌, ◌-◌, ◌*◌, ◌==◌, nat_le, Bool, ◌&&◌, if◌then◌else◌, List, []}
use Rattle.std.specs.Prelude.{◌∷◌, ℤ, Option, Some, None, option_map, option_and_then, Result}
use Rattle.std.specs.Prelude.{ok_or}
use Rattle.std.specs.Char.{is_ascii_digit}
use Rattle.std.specs.Int.{is_in_range}
use Rattle.ts_der.specs.declared.fault.DerFault.{DerFault}
use Rattle.ts_der.specs.declared.fault.DerFault.TheVariants.{TimeForm}
use Rattle.ts_time.specs.declared.civil.CivilTime.{CivilTime}
use Rattle.ts_time.specs.Calendar.{days_in_month}
use Rattle.ts_time.specs.Civil.{moment_of}
use Rattle.ts_time.specs.Text.{year_of_two}

-- the number that two digits write, if they are digits
abbrev pub number_of_two : ℕ → ℕ → Option ℕ
number_of_two tens ones =
    if is_ascii_digit tens && is_ascii_digit ones then Some (10 * (tens - 48) + (ones - 48))
    else None

-- the numbers that octets write, each in two digits, up to the Z that ends them
unfoldable pub numbers_in : List ℕ → Option (List ℕ)
numbers_in [] = None
numbers_in (z ∷ []) = if z == 90 then Some [] else None
numbers_in (tens ∷ ones ∷ octets) =
    option_and_then (λ n. option_map (λ numbers. n ∷ numbers) (numbers_in octets))
    (number_of_two tens ones)

-- whether the calendar has this day, in the years 0 to 9999
abbrev pub is_date : ℕ → ℕ → ℕ → Bool
is_date year month day =
    nat_le year 9999 && is_in_range 1 12 month && is_in_range 1 (days_in_month year month) day

-- whether there is such a time
abbrev pub does_exist : CivilTime → Bool
does_exist t = is_date t.year t.month t.day && nat_le t.hour 23 && nat_le t.minute 59
    && nat_le t.second 59

-- the moment of a time, if there is such a time
abbrev pub moment_if : CivilTime → Option ℤ
moment_if t = if does_exist t then Some (moment_of t) else None

-- the moment that a year and the numbers after it name: a month, a day, an hour, a minute and a
-- second
unfoldable pub moment_in : ℕ → List ℕ → Option ℤ
moment_in year (month ∷ day ∷ hour ∷ minute ∷ second ∷ []) =
    moment_if (record {
      year = year;
      month = month;
      day = day;
      hour = hour;
      minute = minute;
      second = second;
    })
moment_in year numbers = None

-- the moment that the numbers of a UTCTime name, of which the first is YY
unfoldable pub utc_moment : List ℕ → Option ℤ
utc_moment [] = None
utc_moment (yy ∷ numbers) = moment_in (year_of_two yy) numbers

-- the moment that the numbers of a GeneralizedTime name, of which the first two are those of YYYY
unfoldable pub general_moment : List ℕ → Option ℤ
general_moment (century ∷ year ∷ numbers) = moment_in (100 * century + year) numbers
general_moment numbers = None

-- the moment that octets name as a UTCTime, if they name one
unfoldable pub utc_in : List ℕ → Option ℤ
utc_in octets = option_and_then utc_moment (numbers_in octets)

-- the moment that octets name as a GeneralizedTime, if they name one
unfoldable pub generalized_time_in : List ℕ → Option ℤ
generalized_time_in octets = option_and_then general_moment (numbers_in octets)

-- what the content octets of a UTCTime are read as
abbrev pub utc_value : List ℕ → Result ℤ DerFault
utc_value content = ok_or (utc_in content) TimeForm

-- what the content octets of a GeneralizedTime are read as
abbrev pub general_value : List ℕ → Result ℤ DerFault
general_value content = ok_or (generalized_time_in content) TimeForm
