-- The two forms in which certificates write times: UTCTime (RFC 5280 4.1.2.5.1, X.690 11.8) and
-- GeneralizedTime (RFC 5280 4.1.2.5.2, X.690 11.7), always with seconds, without a fraction, and in
-- UTC, which the Z says.
use Rattle.std.specs.Prelude.{◌≡◌, ℕ, ◌+◌, ◌/◌, ◌%◌, ◌<◌, nat_lt, if◌then◌else◌, List, [], ◌∷◌}
use Rattle.std.specs.Prelude.{◌++◌, ℤ, codes}
use Rattle.ts_time.specs.declared.civil.CivilTime.{CivilTime}
use Rattle.ts_time.specs.Civil.{Exists, moment_of}

-- a number below 100 in two decimal digits, of which 48 is 0
abbrev pub two_digits : ℕ → List ℕ
two_digits n = (48 + n / 10) ∷ (48 + n % 10) ∷ []

-- MMDDHHMMSSZ: what both forms write after the year
abbrev pub text_in_year : CivilTime → List ℕ
text_in_year t =
    two_digits t.month ++ two_digits t.day ++ two_digits t.hour ++ two_digits t.minute
    ++ two_digits t.second ++ codes "Z"

-- each number of a time has two digits, but for the year
pub record HasTwoDigits (t : CivilTime) : Type 0 where
  pub month : t.month < 100
  pub day : t.day < 100
  pub hour : t.hour < 100
  pub minute : t.minute < 100
  pub second : t.second < 100

-- the octets are those of the time after this year
pub record IsInYear (year : ℕ) (text : List ℕ) (t : CivilTime) : Type 0 where
  pub year_is : t.year ≡ year
  pub digits : HasTwoDigits t
  pub encoded : text ≡ text_in_year t

-- YYYYMMDDHHMMSSZ, of a time in the years 0000 to 9999
abbrev pub general_text : CivilTime → List ℕ
general_text t = two_digits (t.year / 100) ++ two_digits (t.year % 100) ++ text_in_year t

-- the octets are a GeneralizedTime, and this is its moment
pub record IsGeneral (text : List ℕ) (moment : ℤ) : Type 0 where
  pub time : CivilTime
  pub exists : Exists time
  pub encoded : text ≡ general_text time
  pub named : moment ≡ moment_of time

-- the year that the digits YY mean: 19YY where YY is 50 or more, and 20YY where it is less
abbrev pub year_of_two : ℕ → ℕ
year_of_two yy = if nat_lt yy 50 then 2000 + yy else 1900 + yy

-- the octets are a UTCTime, YYMMDDHHMMSSZ, and this is its moment
pub record IsUtc (text : List ℕ) (moment : ℤ) : Type 0 where
  pub yy : ℕ
  pub two : yy < 100
  pub time : CivilTime
  pub year : time.year ≡ year_of_two yy
  pub exists : Exists time
  pub encoded : text ≡ two_digits yy ++ text_in_year time
  pub named : moment ≡ moment_of time
