-- The Gregorian calendar of ISO 8601, on which X.680 bases UTCTime and GeneralizedTime, carried
-- back before its introduction, and the number of each day, counted from 1970-01-01, the epoch of
-- POSIX.
use Rattle.std.specs.Prelude.{ℕ, zero, suc, ◌+◌, ◌-◌, ◌%◌, ◌≤◌, Bool, not, ◌&&◌, ◌||◌, ◌==◌}
use Rattle.std.specs.Prelude.{if◌then◌else◌, ℤ, pos, ◌-ℤ◌}

-- every fourth year is a leap year, but of the centuries only every fourth
abbrev pub is_leap_year : ℕ → Bool
is_leap_year year = (year % 4 == 0) && (not (year % 100 == 0) || (year % 400 == 0))

-- the days of a year
abbrev pub days_in_year : ℕ → ℕ
days_in_year year = if is_leap_year year then 366 else 365

-- thirty days have September, April, June and November; February has 28, and in a leap year 29; all
-- others have 31
abbrev pub days_in_month : ℕ → ℕ → ℕ
days_in_month year month =
    if month == 2 then (if is_leap_year year then 29 else 28)
    else (if (month == 4) || (month == 6) || (month == 9) || (month == 11) then 30 else 31)

-- the calendar has this day, in the years 0 to 9999
pub record IsDate (year month day : ℕ) : Type 0 where
  pub year_in : year ≤ 9999
  pub month_in : (1 ≤ month) × (month ≤ 12)
  pub day_in : (1 ≤ day) × (day ≤ days_in_month year month)

-- the days of the years 0 to year - 1
unfoldable pub days_before_year : ℕ → ℕ
days_before_year zero = 0
days_before_year (suc year) = days_before_year year + days_in_year year

-- the days of the first n months of a year
unfoldable pub days_of_months : ℕ → ℕ → ℕ
days_of_months year zero = 0
days_of_months year (suc n) = days_of_months year n + days_in_month year (suc n)

-- the days from 1 January of the year 0 to a date
abbrev pub days_since_year_0 : ℕ → ℕ → ℕ → ℕ
days_since_year_0 year month day =
    days_before_year year + days_of_months year (month - 1) + (day - 1)

-- the days from 1970-01-01 to a date, negative before it
unfoldable pub day_number : ℕ → ℕ → ℕ → ℤ
day_number year month day =
    pos (days_since_year_0 year month day) -ℤ pos (days_since_year_0 1970 1 1)
