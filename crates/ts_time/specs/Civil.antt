-- Times as a calendar and a clock show them, in UTC, and the moments that they name: seconds since
-- the epoch of POSIX, which counts no leap seconds.
use Rattle.std.specs.Prelude.{ℕ, ◌+◌, ◌*◌, ◌≤◌, ℤ, pos, ◌+ℤ◌, ◌*ℤ◌, ◌<ℤ◌, ◌≤ℤ◌}
use Rattle.ts_time.specs.declared.civil.CivilTime.{CivilTime}
use Rattle.ts_time.specs.Calendar.{IsDate, day_number}

-- there is such a time: a day of the calendar in the years 0 to 9999, hours 00 to 23, minutes and
-- seconds 00 to 59
pub record Exists (t : CivilTime) : Type 0 where
  pub date : IsDate t.year t.month t.day
  pub hour : t.hour ≤ 23
  pub minute : t.minute ≤ 59
  pub second : t.second ≤ 59

-- the seconds from 1970-01-01T00:00:00Z to a time, where each day has 86,400
unfoldable pub moment_of : CivilTime → ℤ
moment_of t =
    pos 86_400 *ℤ day_number t.year t.month t.day +ℤ pos (3_600 * t.hour + 60 * t.minute + t.second)

-- the first second of a year
unfoldable pub year_start : ℕ → ℤ
year_start year = pos 86_400 *ℤ day_number year 1 1

-- the moment lies in the years from first to last, both included
abbrev pub IsInYears : ℕ → ℕ → ℤ → Type 0
IsInYears first last moment = (year_start first ≤ℤ moment) × (moment <ℤ year_start (last + 1))
