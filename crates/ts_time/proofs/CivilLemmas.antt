-- Each moment of the years 0 to 9999 has one time, which lies in its own year.
use Rattle.std.proofs.Common.{◌≡◌, ℕ, ◌+◌, ◌*◌, ◌≤◌, inl, inr, refl, arith, ℤ, ◌<ℤ◌, ◌≤ℤ◌}
use Rattle.std.proofs.lemmas.Bool.{cases_lt}
use Rattle.jiff_core.proofs.SignedLemmas.{signed_arith}
use Rattle.ts_time.specs.declared.civil.CivilTime.{CivilTime}
use Rattle.ts_time.specs.Calendar.{day_number}
use Rattle.ts_time.specs.Civil.{Exists, moment_of, year_start, IsInYears}
use Rattle.ts_time.proofs.CalendarLemmas.{new_year_mono, in_own_year, day_number_injective}

pub year_start_mono : (y z : ℕ) → y ≤ z → year_start y ≤ℤ year_start z
unfolding year_start
year_start_mono y z h = omega (arith, signed_arith, new_year_mono y z h)

-- the years 0 to 9999 hold every such range
pub IsInYears-wider : (first last : ℕ) (m : ℤ) → last ≤ 9999 → IsInYears first last m → IsInYears 0 9999 m
IsInYears-wider first last m high within =
    (omega (arith, signed_arith, year_start_mono 0 first (omega arith)), omega (arith, signed_arith, year_start_mono (last + 1) (9999 + 1) (omega arith)))

pub moment_in_own_year : (t : CivilTime) → Exists t → (year_start t.year ≤ℤ moment_of t) × (moment_of t <ℤ year_start (t.year + 1))
unfolding year_start moment_of
moment_in_own_year t h =
    let own = in_own_year t.year t.month t.day h.date in
    (omega (arith, signed_arith, own.0), omega (arith, signed_arith, own.1, h.hour, h.minute, h.second))

pub moment_in_years : (first last : ℕ) (t : CivilTime) → Exists t → first ≤ t.year → t.year ≤ last → IsInYears first last (moment_of t)
moment_in_years first last t h low high =
    let own = moment_in_own_year t h in
    (omega (arith, signed_arith, own.0, year_start_mono first t.year low), omega (arith, signed_arith, own.1, year_start_mono (t.year + 1) (last + 1) (omega arith)))

-- and a moment of those years has its time there
pub year_in_years : (first last : ℕ) (t : CivilTime) → Exists t → IsInYears first last (moment_of t) → (first ≤ t.year) × (t.year ≤ last)
year_in_years first last t h within =
    let own = moment_in_own_year t h in
    elim (cases_lt t.year first) [
      | inl before ↦ absurd (omega (arith, signed_arith, own.1, within.0, year_start_mono (t.year + 1) first (omega arith)))
      | inr low ↦ elim (cases_lt last t.year) [
        | inl after ↦ absurd (omega (arith, signed_arith, own.0, within.1, year_start_mono (last + 1) t.year (omega arith)))
        | inr high ↦ (low, high)
      ]
    ]

-- the numbers of two times are the same
pub record IsSameTime (t u : CivilTime) : Type 0 where
  pub year : t.year ≡ u.year
  pub month : t.month ≡ u.month
  pub day : t.day ≡ u.day
  pub hour : t.hour ≡ u.hour
  pub minute : t.minute ≡ u.minute
  pub second : t.second ≡ u.second

pub moment_of_injective : (t u : CivilTime) → Exists t → Exists u → moment_of t ≡ moment_of u → IsSameTime t u
unfolding moment_of
moment_of_injective t u h k e =
    let number : day_number t.year t.month t.day ≡ day_number u.year u.month u.day = omega (arith, signed_arith, h.hour, h.minute, h.second, k.hour, k.minute, k.second) in
    let date = day_number_injective _ _ _ _ _ _ h.date k.date number in
    let clock : 3_600 * t.hour + 60 * t.minute + t.second ≡ 3_600 * u.hour + 60 * u.minute + u.second = omega (arith, signed_arith) in
    record {
      year = date.0;
      month = date.1;
      day = date.2;
      hour = omega (arith, h.minute, h.second, k.minute, k.second);
      minute = omega (arith, h.minute, h.second, k.minute, k.second);
      second = omega (arith, h.minute, h.second, k.minute, k.second);
    }

pub moment_of-same : (t u : CivilTime) → IsSameTime t u → moment_of t ≡ moment_of u
unfolding moment_of
moment_of-same t u h = rw (h.year, h.month, h.day, h.hour, h.minute, h.second) refl
